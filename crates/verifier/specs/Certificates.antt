-- The certificates of the routines of a set, by driver and number.
use Rattle.std.specs.Prelude.{ℕ, ◌≡◌, List, map}
use Rattle.model.specs.declared.set.Driver.{Driver}
use Rattle.model.specs.declared.set.Routine.{Routine}
use Rattle.model.specs.Certificate.{certificate}
use Rattle.model.specs.Set.{Set}

abbrev pub routine_certificate : Routine → ℕ
routine_certificate routine = certificate routine.code

abbrev pub driver_certificates : Driver → List ℕ
driver_certificates driver = map routine_certificate driver.routines

abbrev pub AreCertificates : Set → List (List ℕ) → Type 0
AreCertificates set certificates = certificates ≡ map driver_certificates set.drivers
