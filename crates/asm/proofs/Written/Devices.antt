-- The devices that are read are those of the lines.
use Rattle.std.proofs.Common.{◌≡◌, ℕ, ◌+◌, false, List, [], ◌∷◌, ◌++◌, Option, Some, None, refl, ap, sym, ◌∙◌, append_assoc, append-nil}
use Rattle.std.specs.Prelude.{option_map, option_and_then, option_to_list}
use Rattle.std.proofs.lemmas.List.Elements.{filter_map-append}
use Rattle.model.specs.declared.set.Device.{Device}
use Rattle.model.specs.declared.status.Major.TheVariants.{Read, Write, Control}
use Rattle.asm_line.specs.declared.line.Body.{Body}
use Rattle.asm_line.specs.declared.line.Body.TheVariants.{OpenDriver, AddQueue, Handle, AddDevice, Step as TakeStep}
use Rattle.asm_line.specs.declared.line.Line.{Line}
use Rattle.asm.specs.Outline.{Outline, device_of, noted, used_at}
use Rattle.asm.specs.Faults.{is_out_of_range}
use Rattle.asm.proofs.Scopes.{Reads}
use Rattle.asm.specs.Names.{number_of}
use Rattle.asm.specs.Parts.{around, device_on, driver_on, said}
use Rattle.asm.specs.Said.{added_device, devices_on}
use Rattle.asm.proofs.Fitting.{fitting}

-- lines before and after a place, in order
pub around_split : (before after : List Line) → around before after ≡ around before [] ++ after
around_split [] after = refl
around_split (l ∷ before) after =
    around_split before (l ∷ after)
    ∙ sym (append_assoc (around before []) (l ∷ []) after)
    ∙ ap (λ (ls : List Line). ls ++ after) (sym (around_split before (l ∷ [])))

-- what lines say, with a line more
said_more : {A : Type 0} (kind : Body → Option A) (before : List Line) (l : Line)
    → said kind (around (l ∷ before) []) ≡ said kind (around before []) ++ said kind (l ∷ [])
said_more kind before l =
    ap (said kind) (around_split before (l ∷ []))
    ∙ filter_map-append (λ (l : Line). kind l.body) (around before []) (l ∷ [])

-- the names so far, in order
pub record AreNamed (o : Outline) (before : List Line) : Type 0 where
  pub drivers : o.driver_names ≡ said driver_on (around before [])
  pub devices : o.device_names ≡ said device_on (around before [])

-- so it is with each line more; and its device is the one that is added
pub record DeviceTurn (o next : Outline) (l : Line) (before : List Line) : Type 0 where
  pub named : AreNamed next (l ∷ before)
  pub added : next.devices ≡ o.devices
      ++ option_to_list (added_device (around before []) l.body)

nothing_added : (o next : Outline) (l : Line) (before : List Line)
    → next.driver_names ≡ o.driver_names → next.device_names ≡ o.device_names
    → next.devices ≡ o.devices → said driver_on (l ∷ []) ≡ [] → said device_on (l ∷ []) ≡ []
    → added_device (around before []) l.body ≡ None → AreNamed o before
    → DeviceTurn o next l before
nothing_added o next l before drivers devices same none nothing added h = record {
  named = record {
    drivers = drivers ∙ h.drivers ∙ sym (said_more driver_on before l
        ∙ ap (λ (names : List (List ℕ)). said driver_on (around before []) ++ names) none
        ∙ append-nil (said driver_on (around before [])));
    devices = devices ∙ h.devices ∙ sym (said_more device_on before l
        ∙ ap (λ (names : List (List ℕ)). said device_on (around before []) ++ names) nothing
        ∙ append-nil (said device_on (around before [])));
  };
  added = same ∙ sym (ap (λ (d : Option Device). o.devices ++ option_to_list d) added
      ∙ append-nil o.devices);
}

-- a device, by the names so far
abbrev device_from : List (List ℕ) → List (List ℕ) → List ℕ → ℕ → Option (List ℕ) → Option Device
device_from drivers devices driver stack lower = option_map (λ number. record {
  driver = number;
  stack = stack;
  lower = option_and_then (λ name. number_of devices name) lower;
}) (number_of drivers driver)

named_alike : (o : Outline) (driver : List ℕ) (stack : ℕ) (lower : Option (List ℕ))
    (before : List Line) → AreNamed o before
    → device_from o.driver_names o.device_names driver stack lower
    ≡ device_from (said driver_on (around before [])) (said device_on (around before [])) driver
    stack lower
named_alike o driver stack lower before h =
    ap (λ (names : List (List ℕ)). device_from names o.device_names driver stack lower) h.drivers
    ∙ ap (λ (names : List (List ℕ)).
    device_from (said driver_on (around before [])) names driver stack lower) h.devices

device_same : (o : Outline) (n : ℕ) (name driver : List ℕ) (stack : ℕ) (lower : Option (List ℕ))
    (before : List Line) → AreNamed o before
    → device_of o driver stack (used_at n lower)
    ≡ added_device (around before []) (AddDevice name driver stack lower)
device_same o n name driver stack None before h = named_alike o driver stack None before h
device_same o n name driver stack (Some under) before h =
    named_alike o driver stack (Some under) before h

device_turn : (o : Outline) (n : ℕ) (label : Option (List ℕ)) (body : Body) (before : List Line)
    → is_out_of_range body ≡ false → AreNamed o before
    → DeviceTurn o (noted o n label body) (record { label = label; body = body }) before
device_turn o n label (OpenDriver name) before range h =
    let l : Line = record { label = label; body = OpenDriver name } in
    record {
      named = record {
        drivers = ap (λ (names : List (List ℕ)). names ++ name ∷ []) h.drivers
            ∙ sym (said_more driver_on before l);
        devices = h.devices ∙ sym (said_more device_on before l
            ∙ append-nil (said device_on (around before [])));
      };
      added = sym (append-nil o.devices);
    }
device_turn o n label (AddDevice name driver stack lower) before range h =
    let l : Line = record { label = label; body = AddDevice name driver stack lower } in
    record {
      named = record {
        drivers = h.drivers ∙ sym (said_more driver_on before l
            ∙ append-nil (said driver_on (around before [])));
        devices = ap (λ (names : List (List ℕ)). names ++ name ∷ []) h.devices
            ∙ sym (said_more device_on before l);
      };
      added = ap (λ (d : Option Device). o.devices ++ option_to_list d)
          (device_same o n name driver stack lower before h);
    }
device_turn o n label (AddQueue name None cancel) before range h = cc
device_turn o n label (TakeStep None used) before range h = cc
device_turn o n label (Handle Read name) before range h =
    nothing_added o (noted o n label (Handle Read name))
    (record { label = label; body = Handle Read name }) before refl refl refl refl refl refl h
device_turn o n label (Handle Write name) before range h =
    nothing_added o (noted o n label (Handle Write name))
    (record { label = label; body = Handle Write name }) before refl refl refl refl refl refl h
device_turn o n label (Handle Control name) before range h =
    nothing_added o (noted o n label (Handle Control name))
    (record { label = label; body = Handle Control name }) before refl refl refl refl refl refl h
device_turn o n label body before range h =
    nothing_added o (noted o n label body) (record { label = label; body = body }) before
    refl refl refl refl refl refl h

pub devices_read : (o : Outline) (n : ℕ) (raws : List (List ℕ)) (ls : List Line) (end : Outline)
    (before : List Line) → Reads o n raws ls end → AreNamed o before
    → end.devices ≡ o.devices ++ devices_on before ls
devices_read o n [] [] end before read h =
    ap (λ (x : Outline). x.devices) (sym read) ∙ sym (append-nil o.devices)
devices_read o n [] (l ∷ ls) end before read h = absurd read
devices_read o n (raw ∷ raws) [] end before read h = absurd read
devices_read o n (raw ∷ raws) (l ∷ ls) end before read h =
    let fits = fitting o l read.1.0 in
    let next = noted o n l.label l.body in
    let turn = device_turn o n l.label l.body before fits.in_range h in
    devices_read next (n + 1) raws ls end (l ∷ before) read.1.1 turn.named
    ∙ ap (λ (devices : List Device). devices ++ devices_on (l ∷ before) ls) turn.added
    ∙ append_assoc o.devices (option_to_list (added_device (around before []) l.body))
    (devices_on (l ∷ before) ls)
