-- What stands in folders, and below them.
use Rattle.std.specs.Prelude.{ℕ, ◌≡◌, ◌⊎◌, ◌↔◌, List, [], ◌∷◌, flat_map, if◌then◌else◌, Option, None, Some, String, string_bytes}
use Rattle.std.specs.Global.{Global}
use Rattle.std.specs.List.{Contains}
use Rattle.drvhost_files.specs.declared.folders.Entry.{Entry}
use Rattle.drvhost_files.specs.declared.folders.Kind.{Kind}
use Rattle.drvhost_files.specs.declared.folders.Kind.TheVariants.{Folder, File, Other, Unknown}
use Rattle.drvhost_files.specs.declared.folders.Listing.{Listing}
use Rattle.drvhost_files.specs.declared.sought.Sought.{Sought}
use Rattle.drvhost_files.specs.Found.{IsAlone, is_name_of}

-- the path of an entry of this kind, if it is a folder, or a file that is sought
abbrev pub if_folder : Kind → String Global → List (String Global)
if_folder Folder path = path ∷ []
if_folder File path = []
if_folder Other path = []
if_folder Unknown path = []

abbrev pub if_file : Sought → Kind → String Global → List (String Global)
if_file sought File path = if is_name_of sought (string_bytes path) then path ∷ [] else []
if_file sought Folder path = []
if_file sought Other path = []
if_file sought Unknown path = []

-- the folders in a folder, and the files in it that are sought
abbrev pub folder_of : Entry → List (String Global)
folder_of entry = if_folder entry.kind entry.path

abbrev pub file_of : Sought → Entry → List (String Global)
file_of sought entry = if_file sought entry.kind entry.path

abbrev pub folders_of : Listing → List (String Global)
folders_of listing = flat_map folder_of listing.entries.items

abbrev pub files_of : Sought → Listing → List (String Global)
files_of sought listing = flat_map (file_of sought) listing.entries.items

-- a path is one of these
abbrev pub IsIn : List ℕ → List (String Global) → Type 0
IsIn path names = (name : String Global) × Contains names name × (string_bytes name ≡ path)

-- what is listed of a path is always this
abbrev pub Lists : (List ℕ → Option Listing → Type 0) → (List ℕ → Option Listing) → Type 0
Lists May has = (place : List ℕ) (listing : Option Listing) → May place listing → listing ≡ has place

-- the folder of a path has such a folder, or such a file that is sought
abbrev pub HasFolder : (List ℕ → Option Listing) → List ℕ → List ℕ → Type 0
HasFolder has folder path =
    (listing : Listing) × (has folder ≡ Some listing) × IsIn path (folders_of listing)

abbrev pub HasFile : Sought → (List ℕ → Option Listing) → List ℕ → List ℕ → Type 0
HasFile sought has folder path =
    (listing : Listing) × (has folder ≡ Some listing) × IsIn path (files_of sought listing)

-- a path is that of a folder, or of one so many below it: each of these is in the next
abbrev pub IsWithin : (List ℕ → Option Listing) → List ℕ → List (List ℕ) → List ℕ → Type 0
IsWithin has root [] path = path ≡ root
IsWithin has root (folder ∷ above) path = HasFolder has folder path × IsWithin has root above folder

abbrev pub IsBelow : (List ℕ → Option Listing) → List ℕ → List ℕ → Type 0
IsBelow has root path = (above : List (List ℕ)) × IsWithin has root above path

-- a path is that of a file that is sought, in or below a folder
abbrev pub IsFileBelow : Sought → (List ℕ → Option Listing) → List ℕ → List ℕ → Type 0
IsFileBelow sought has root path =
    (folder : List ℕ) × IsBelow has root folder × HasFile sought has folder path

-- these are exactly the files that are sought in and below a folder, or the path alone if it is none
abbrev pub AreBelow : Sought → (List ℕ → Option Listing) → List ℕ → List (String Global) → Type 0
AreBelow sought has root files =
    ((has root ≡ None) × IsAlone root files)
    ⊎ ((path : List ℕ) → IsIn path files ↔ IsFileBelow sought has root path)

-- the files of some folders were found, and these folders wait: each folder was looked into or
-- waits that is one of them, or in one
pub record Knows (sought : Sought) (has : List ℕ → Option Listing) (root : List ℕ)
    (waiting files : List (String Global)) : Type 0 where
  pub seen : List (List ℕ)
  pub root_seen : Contains seen root
  pub found : (path : List ℕ) → IsIn path files → IsFileBelow sought has root path
  pub below : (path : List ℕ) → IsIn path waiting → IsBelow has root path
  pub folders : (place path : List ℕ) → Contains seen place → HasFolder has place path
      → Contains seen path ⊎ IsIn path waiting
  pub sets : (place path : List ℕ) → Contains seen place → HasFile sought has place path
      → IsIn path files
