-- The lines that are told of a hunt that has found no run, or tells none.
use Rattle.std.specs.Prelude.{ℕ, ◌++◌, Bool, true, false, List, codes, decimal}
use Rattle.hunt_facts.specs.declared.bounds.Bounds.{Bounds}
use Rattle.tell_audit.specs.declared.ending.Ending.{Ending}
use Rattle.hunt_schedule.specs.Headline.{headline}

-- that all worlds within bounds were seen, which are so many, where packets are bounded that live at
-- once
abbrev pub all_line : Bounds → ℕ → List ℕ
all_line bounds worlds =
    codes "none: all " ++ (decimal worlds ++ (codes " worlds of " ++ (decimal bounds.threads
    ++ (codes " threads and " ++ (decimal bounds.packets ++ codes " packets seen\n")))))

-- that so many were seen, in runs of up to so many events, and more are left
abbrev pub more_line : ℕ → ℕ → List ℕ
more_line worlds events =
    codes "none in runs of up to " ++ (decimal events ++ (codes " events: " ++ (decimal worlds
    ++ codes " worlds seen, more left\n")))

-- what isn't looked for in a refused set where packets are bounded in all
abbrev pub line_end : Bool → List ℕ
line_end true = codes "; a status that disagrees with its mark isn't looked for\n"
line_end false = codes "\n"

-- that all worlds within such bounds were seen, which are so many at most; and that so many were
-- seen, in runs of up to so many events, and more are left
abbrev pub never_line : Bounds → ℕ → Bool → List ℕ
never_line bounds worlds refused =
    codes "none: all worlds of " ++ (decimal bounds.threads ++ (codes " threads and "
    ++ (decimal bounds.packets ++ (codes " packets in all seen, at most " ++ (decimal worlds
    ++ line_end refused)))))

abbrev pub fine_line : Bounds → ℕ → ℕ → Bool → List ℕ
fine_line bounds worlds events refused =
    codes "none in runs of up to " ++ (decimal events ++ (codes " events and "
    ++ (decimal bounds.packets ++ (codes " packets in all: " ++ (decimal worlds
    ++ (codes " worlds seen, more left" ++ line_end refused))))))

-- that a run ends so, and isn't told
abbrev pub unlisted_line : Ending → List ℕ
unlisted_line ending = headline ending ++ codes "; its schedule, read back, doesn't end so\n"
