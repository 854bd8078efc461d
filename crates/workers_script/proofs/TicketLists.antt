-- The commands of a script as they are submitted, in order.
use Rattle.std.proofs.Common.{◌≡◌, ◌∙◌, ◌<◌, ℕ, ◌+◌, List, [], ◌∷◌, ◌++◌, ap, arith, get_or, length, map, sym, take}
use Rattle.std.proofs.lemmas.List.{length_push}
use Rattle.std.proofs.lemmas.List.FromFn.{map-range_with_len_more}
use Rattle.std.proofs.lemmas.Option.{slice_get-get_or}
use Rattle.std.specs.List.{range_with_len}
use Rattle.model.specs.declared.history.Command.{Command}
use Rattle.model.specs.declared.history.Name.{Name}
use Rattle.model.specs.History.{NamedCommand}
use Rattle.intake.specs.Lists.{name_of}
use Rattle.workers_script.specs.Served.{command_name, named_from}
use Rattle.workers_script.proofs.NumberedCommands.{length_named, long_taken, put_more}

-- the first so many commands of a script were submitted, and these are their tickets
pub record Submitted (commands : List Command) (index : ℕ) (put : List NamedCommand)
    (tickets : List Name) : Type 0 where
  pub count : length tickets ≡ index
  pub named : put ≡ named_from 0 (take index commands)
  pub numbered : tickets ≡ map command_name (range_with_len 0 index)

-- one more
pub submitted_more : (commands : List Command) (index : ℕ) (put after : List NamedCommand)
    (tickets more : List Name) (number : ℕ) (ticket : Name) (command : Command)
    → Submitted commands index put tickets → index < length commands → number ≡ 0
    → ticket ≡ name_of number (length put)
    → after ≡ put ++ record { name = ticket; command = get_or commands index command } ∷ []
    → more ≡ tickets ++ ticket ∷ []
    → Submitted commands (index + 1) after more
submitted_more commands index put after tickets more number ticket command s few zeroth its puts adds
    =
    let named : ticket ≡ name_of 0 (length put) = its ∙ ap (λ n. name_of n (length put)) zeroth in
    let parts = length_named 0 (take index commands) in
    let all = long_taken index commands (omega (arith, few)) in
    let same : length put ≡ length (named_from 0 (take index commands)) = ap length s.named in
    let long : length put ≡ index = omega (arith, same, parts, all) in
    let name : ticket ≡ command_name index = named ∙ ap command_name long in
    let at = slice_get-get_or commands index command few in
    record {
      count = ap length adds ∙ length_push tickets ticket ∙ ap (λ n. n + 1) s.count;
      named = puts ∙ put_more put commands index (get_or commands index command) ticket s.named at
          named;
      numbered = adds ∙ ap (λ n. tickets ++ n ∷ []) name
          ∙ ap (λ xs. xs ++ command_name index ∷ []) s.numbered
          ∙ sym (map-range_with_len_more command_name 0 index index (omega arith));
    }
