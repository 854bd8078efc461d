-- What is said of files that can't be read.
use Rattle.std.proofs.Common.{◌≡◌, ◌≢◌, ◌∙◌, ℕ, List, [], Option, append-nil, inl, inr, refl, subst, sym}
use Rattle.report.specs.Fault.{unopened_line}
use Rattle.drvhost_devices.specs.Device.{Says, SaysBehind}
use Rattle.drvhost_words.specs.Unread.{SaysUnread}

-- no read failed, and nothing is said
pub unread_none : (Such : List ℕ → Type 0) (reads failures old : ℕ) (b : Option (List ℕ))
    → reads ≡ 0 → SaysUnread Such reads failures old old b b
unread_none Such reads failures old b none = (
  [],
  inl (none, refl),
  λ start told says.
      let P : List ℕ → Type 0 = Says failures old start b in subst P (sym (append-nil told)) says,
)

-- one did, and the name of the file is said
pub unread_one : (Such : List ℕ → Type 0) (reads failures old new : ℕ) (b n : Option (List ℕ))
    (name : List ℕ) → Such name → reads ≢ 0
    → SaysBehind failures old new b n (unopened_line name)
    → SaysUnread Such reads failures old new b n
unread_one Such reads failures old new b n name such some behind =
    (unopened_line name, inr (some, (name, such, refl)), behind)

-- where more names may be said
pub unread_other : (Such Others : List ℕ → Type 0) (reads all failures old new : ℕ)
    (b n : Option (List ℕ)) → ((name : List ℕ) → Such name → Others name) → all ≡ reads
    → SaysUnread Such reads failures old new b n → SaysUnread Others all failures old new b n
unread_other Such Others reads all e f h b n on same (text, inl (none, empty), behind) =
    (text, inl (same ∙ none, empty), behind)
unread_other Such Others reads all e f h b n on same (text, inr (some, (name, such, is)), behind) =
    (text, inr (λ none. some (sym same ∙ none), (name, on name such, is)), behind)
