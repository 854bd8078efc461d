-- Lists of commands that were put into a queue or taken from it.
use Rattle.std.specs.Prelude.{ℕ, ◌≡◌, ◌<◌, ◌+◌, List, Some, slice_get}
use Rattle.std.specs.List.{AllPairs, sum_by}
use Rattle.model.specs.declared.history.Name.{Name}
use Rattle.model.specs.History.{NamedCommand}

-- the weights of the commands of a list, added up
abbrev pub weigh : (NamedCommand → ℕ) → List NamedCommand → ℕ
weigh h commands = sum_by h commands

-- one list has as many of each command as another
abbrev pub HasSame : List NamedCommand → List NamedCommand → Type 0
HasSame xs ys = (h : NamedCommand → ℕ) → weigh h xs ≡ weigh h ys

-- the commands of one list are among those of another, each at most as often
abbrev pub AreAmong : List NamedCommand → List NamedCommand → Type 0
AreAmong xs ys =
    (rest : List NamedCommand)
    × ((h : NamedCommand → ℕ) → weigh h ys ≡ weigh h xs + weigh h rest)

-- of two commands of one submitter the first has the lower count
abbrev pub IsEarlier : NamedCommand → NamedCommand → Type 0
IsEarlier x y = x.name.submitter ≡ y.name.submitter → x.name.count < y.name.count

-- the commands of each submitter stand in the order in which they got their names
abbrev pub IsInOrder : List NamedCommand → Type 0
IsInOrder commands = AllPairs IsEarlier commands

-- the i-th command of a submitter has the name (its number, i)
abbrev pub name_of : ℕ → ℕ → Name
name_of number i = record { submitter = number; count = i }

abbrev pub IsNumbered : ℕ → List NamedCommand → Type 0
IsNumbered number put =
    (i : ℕ) (x : NamedCommand) → slice_get put i ≡ Some x → x.name ≡ name_of number i
