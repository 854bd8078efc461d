-- What a file has to give that is opened when it is first read, and what one has that is written.
use Rattle.std.specs.Prelude.{ℕ, ⊤, ◌≡◌, ◌≢◌, ◌⊎◌, List, [], Option, None, Some}
use Rattle.drvhost_devices.specs.Device.{Bytes, Closed, Supply, Unknown}

-- how many reads of it, or writes to it, failed: none before it is opened
abbrev pub failures_of : {A : Type 0} → (A → ℕ) → Option A → ℕ
failures_of failures None = 0
failures_of failures (Some file) = failures file

-- what it has to give: before it is opened what its name is known to have
abbrev pub supply_of : {A : Type 0} → (A → Supply) → Supply → Option A → Supply
supply_of supply named None = named
supply_of supply named (Some file) = supply file

-- the bytes of a file that was just opened to be written, by what was known of what it had: none,
-- where something was known
abbrev pub blank : Supply → Option (List ℕ)
blank Unknown = None
blank Closed = Some []
blank (Bytes held) = Some []

-- the bytes that were written to it: before it is opened none, likewise
abbrev pub contents_of : {A : Type 0} → (A → Option (List ℕ)) → Supply → Option A
    → Option (List ℕ)
contents_of contents named None = blank named
contents_of contents named (Some file) = contents file

-- the bytes that were written to a writer: to none, none
abbrev pub contents_given : {A : Type 0} → (A → Option (List ℕ)) → Option A → Option (List ℕ)
contents_given contents None = Some []
contents_given contents (Some writer) = contents writer

-- a file has these bytes, where something was known of what it had before
abbrev pub Has : Supply → Supply → List ℕ → Type 0
Has Unknown after bytes = ⊤
Has Closed after bytes = after ≡ Bytes bytes
Has (Bytes held) after bytes = after ≡ Bytes bytes

-- a file has what was written to it, where that is known; if nothing was, since it couldn't be
-- opened, it may have what it had
abbrev pub IsWritten : Supply → Supply → Option (List ℕ) → Type 0
IsWritten before after None = ⊤
IsWritten before after (Some bytes) = Has before after bytes ⊎ ((bytes ≡ []) × (after ≡ before))

-- what the files of names have to give before and after what was written to one of them: that one
-- has this, and the others have what they had
pub record Stores (before after : List ℕ → Supply) (name : List ℕ) (contents : Option (List ℕ))
    : Type 0 where
  pub written : IsWritten (before name) (after name) contents
  pub others : (other : List ℕ) → other ≢ name → after other ≡ before other
