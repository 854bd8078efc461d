-- What a call writes into a list that it was lent, if it says that it did.
use Rattle.std.specs.Prelude.{Bool, true, false, List, Option, None, Some}

abbrev pub as_option : {A : Type 0} → Bool → List A → Option (List A)
as_option true xs = Some xs
as_option false xs = None
