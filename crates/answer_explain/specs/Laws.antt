-- The answer for the bytes of the files is one, and what was rewritten stays as it is.
use Rattle.std.specs.Prelude.{ℕ, ◌≡◌, List}
use Rattle.drvhost_devices.specs.declared.verification.Verification.{Verification}
use Rattle.drvhost_devices.specs.Answer.{Answer, IsCheck, IsListing, IsOfFile, IsRewrite}
use Rattle.drvhost_devices.specs.Ends.{IsTrace}

-- two answers of `check` for the same bytes are equal
abbrev pub CheckIsOne : Type 0
CheckIsOne =
    (set : List ℕ) (one other : Answer) → IsCheck set one → IsCheck set other → one ≡ other

-- two answers of `trace` likewise
abbrev pub TraceIsOne : Type 0
TraceIsOne =
    (verification : Verification) (set schedule : List ℕ) (one other : Answer)
    → IsTrace verification set schedule one → IsTrace verification set schedule other → one ≡ other

-- two answers of `list` likewise
abbrev pub ListIsOne : Type 0
ListIsOne =
    (set : List ℕ) (one other : Answer) → IsOfFile IsListing set one → IsOfFile IsListing set other
    → one ≡ other

-- two answers of `rewrite` likewise
abbrev pub RewriteIsOne : Type 0
RewriteIsOne =
    (set : List ℕ) (one other : Answer) → IsRewrite set one → IsRewrite set other → one ≡ other

-- where a set was rewritten, a second rewrite, of what was written, answers the same
abbrev pub RewritingIsStable : Type 0
RewritingIsStable =
    (set : List ℕ) (one other : Answer) → IsRewrite set one → one.status ≡ 0
    → IsRewrite one.output other → other ≡ one
