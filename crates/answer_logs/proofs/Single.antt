-- What is found where there is one result.
use Rattle.std.proofs.Common.{◌≡◌, ℕ, List, [], ◌∷◌, IfOk, Option, Result, Ok, Err}
use Rattle.std.specs.Global.{Vec}
use Rattle.asm.specs.declared.fault.AsmFault.{AsmFault}
use Rattle.model.specs.declared.abs.Refusal.{Refusal}
use Rattle.model.specs.Set.{Set}
use Rattle.report_sarif.specs.declared.log.Finding.{Finding}
use Rattle.report_sarif.specs.declared.log.Region.{Region}
use Rattle.drvhost_devices.specs.declared.extent.Extent.{Extent}
use Rattle.drvhost_devices.specs.declared.logging.Account.{Account}
use Rattle.drvhost_devices.specs.declared.logging.Account.TheVariants.{Verdict, Explanation}
use Rattle.drvhost_devices.specs.declared.logging.Passes.{Passes}
use Rattle.drvhost_devices.specs.declared.logging.Passes.TheVariants.{Listed}
use Rattle.report.specs.Fault.{text_kind_name}
use Rattle.answer_explain.specs.Regions.{fault_region}
use Rattle.answer_logs.specs.declared.found.Found.{Found}
use Rattle.answer_logs.specs.Found.{AreExplained, AreTold, IsFault, IsFaultFound, IsPass, IsPassed, IsRefusalFound, IsSaid, IsTextFaultFound}

pub pass_listed : {E : Type 0} (r : Result Found E) (passes : Passes) (name : List ℕ)
    (finding : Finding) → passes ≡ Listed → IsPass name finding
    → IfOk r (λ found. found.status ≡ 0) → IfOk r (λ found. found.findings.items ≡ finding ∷ [])
    → IfOk r (IsPassed passes name)
pass_listed (Ok found) passes name finding is pass status one = rw is (status, (finding, pass, one))
pass_listed (Err e) passes name finding is pass status one = tt

pub fault_found : {E : Type 0} (r : Result Found E) (name kind said : List ℕ) (place : Option Region)
    (finding : Finding) → IsFault name kind said place finding → IfOk r (λ found. found.status ≡ 2)
    → IfOk r (λ found. found.findings.items ≡ finding ∷ [])
    → IfOk r (IsFaultFound name kind said place)
fault_found (Ok found) name kind said place finding fault status one =
    record { status = status; finding = finding; fault = fault; alone = one }
fault_found (Err e) name kind said place finding fault status one = tt

-- the fault of a text is told, with what is said of it
pub text_told : {E : Type 0} (r : Result Found E) (account : Account) (name bytes said : List ℕ)
    (fault : AsmFault) → IsSaid account said
    → IfOk r (IsFaultFound name (text_kind_name fault.kind) said (fault_region bytes fault.line))
    → IfOk r (IsTextFaultFound account name bytes fault)
text_told (Ok found) account name bytes said fault is told = (said, is, told)
text_told (Err e) account name bytes said fault is told = tt

-- of a refused set
pub verdict_told : {E : Type 0} (r : Result (Vec Finding) E) (account : Account)
    (name bytes : List ℕ) (set : Set) (refusal : Refusal) (finding : Finding) → account ≡ Verdict
    → IsRefusalFound name bytes refusal finding → IfOk r (λ list. list.items ≡ finding ∷ [])
    → IfOk r (λ list. AreTold account name bytes set refusal list.items)
verdict_told (Ok list) account name bytes set refusal finding is found one =
    rw is (finding, found, one)
verdict_told (Err e) account name bytes set refusal finding is found one = tt

pub explanation_told : {E : Type 0} (r : Result (Vec Finding) E) (account : Account)
    (extent : Extent) (name bytes : List ℕ) (set : Set) (refusal : Refusal)
    → account ≡ Explanation extent
    → IfOk r (λ list. AreExplained extent name bytes set refusal list.items)
    → IfOk r (λ list. AreTold account name bytes set refusal list.items)
explanation_told r account extent name bytes set refusal is explained = rw is explained
