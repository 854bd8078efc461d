-- What `list` answers in JSON: a line for the listing of the set, or for the fault of the file.
use Rattle.std.proofs.Common.{◌≤◌, ◌≡◌, ℕ, List, arith, codes}
use Rattle.asm_line.specs.Listing.{listing}
use Rattle.json.specs.Json.{Json, max_depth, string, object, no_members, member}
use Rattle.json.specs.Tree.{depth}
use Rattle.model.specs.Set.{Set}
use Rattle.drvhost_devices.specs.declared.fault.End.TheVariants.{Complete}
use Rattle.drvhost_devices.specs.Answer.{Answer}
use Rattle.drvhost_devices.specs.Device.{Supply}
use Rattle.answer.specs.Told.{IsToldOf, ended_line}

-- the set of the file of a name, as such a text
abbrev pub listing_json : List ℕ → List ℕ → Json
listing_json file text =
    object
    (member (codes "format") (string (codes "pafteis.listing/1"))
    (member (codes "file") (string file)
    (member (codes "text") (string text)
    no_members)))

-- what is right in JSON for the set of the file of a name
abbrev pub IsListingJson : List ℕ → Set → Answer → Type 0
IsListingJson name set answer = answer ≡ ended_line Complete (listing_json name (listing set))

-- what `list` answers in JSON for what the source has that is the file of a name
abbrev pub IsListJsonOf : List ℕ → Supply → Answer → Type 0
IsListJsonOf name supply answer = IsToldOf (λ _. IsListingJson name) name supply answer

-- its object nests no deeper than one may
pub listing_nests : (file text : List ℕ) → depth (listing_json file text) ≤ max_depth
listing_nests file text = omega arith
