-- Each instruction, in its usual form, is read as the exact reading says.
use Rattle.std.proofs.Common.{◌≡◌, ℕ, List, [], ◌++◌, Some, None, refl, codes}
use Rattle.model.specs.declared.instr.Field.{Field}
use Rattle.model.specs.declared.instr.Return.{Return}
use Rattle.model.specs.declared.instr.Return.TheVariants.{Lower}
use Rattle.model.specs.declared.instr.Instr.TheVariants.{Const, Move, Clear, Add, Subtract, JumpIfZero, JumpIfLess, Jump, Loop, End, Load, Store, LoadPaged, StorePaged, Get, Put, Mark, Acquire, Release, AcquireCancel, ReleaseCancel, Insert, Remove, Unlink, Arm, Disarm, IfCancel, Start, Take, Begin, Next, Dequeue, Pass, Call, Complete, IfPending, Ret}
use Rattle.model.specs.declared.status.Status.{Status}
use Rattle.asm_line.specs.Cursor.{called, cell, constant, field, label, one, paged_cell, queue, register, returned, so_far, spin_lock, status, three, turns, two}
use Rattle.asm_line.specs.Plain.{unnamed}
use Rattle.asm_line.specs.Usual.{same, with_label, with_queue, with_routine, ReadsStep, Takes, TakesStatus}
use Rattle.asm_line.specs.declared.line.Body.TheVariants.{Step}
use Rattle.text.proofs.Spaced.{plain_word}
use Rattle.asm_line.proofs.Plain.{lower_taken, none_called, nothing_read, one_read, status_taken, step_read, three_read, two_read}

pub add_read : {line a b e : List ℕ} {x y : ℕ}
    → line ≡ codes "add" ++ a → Takes register same a x b → Takes register same b y e → e ≡ []
    → ReadsStep line (Step (Some (Add x y)) unnamed)
add_read parts first second done =
    step_read (codes "add") (two Add register register)
    (plain_word (codes "add") refl refl refl) refl
    (λ c. refl) parts (two_read Add first second done)

pub acquire_read : {line a e : List ℕ} {x : ℕ}
    → line ≡ codes "acquire" ++ a → Takes spin_lock same a x e → e ≡ []
    → ReadsStep line (Step (Some (Acquire x)) unnamed)
acquire_read parts first done =
    step_read (codes "acquire") (one Acquire spin_lock)
    (plain_word (codes "acquire") refl refl refl) refl
    (λ c. refl) parts (one_read Acquire first done)

pub acqc_read : {line e : List ℕ}
    → line ≡ codes "acqc" ++ e → e ≡ [] → ReadsStep line (Step (Some AcquireCancel) unnamed)
acqc_read parts done =
    step_read (codes "acqc") (so_far AcquireCancel) (plain_word (codes "acqc") refl refl refl) refl
    (λ c. refl) parts (nothing_read AcquireCancel done)

pub arm_read : {line a b e q : List ℕ} {x : ℕ}
    → line ≡ codes "arm" ++ a → Takes register same a x b → Takes queue (with_queue q) b 0 e
    → e ≡ [] → ReadsStep line (Step (Some (Arm x 0)) (with_queue q unnamed))
arm_read parts first second done =
    step_read (codes "arm") (two Arm register queue) (plain_word (codes "arm") refl refl refl) refl
    (λ c. refl) parts (two_read Arm first second done)

pub begin_read : {line a e : List ℕ} {x : ℕ}
    → line ≡ codes "begin" ++ a → Takes register same a x e → e ≡ []
    → ReadsStep line (Step (Some (Begin x)) unnamed)
begin_read parts first done =
    step_read (codes "begin") (one Begin register) (plain_word (codes "begin") refl refl refl) refl
    (λ c. refl) parts (one_read Begin first done)

pub const_read : {line a b e : List ℕ} {x y : ℕ}
    → line ≡ codes "const" ++ a → Takes register same a x b → Takes constant same b y e → e ≡ []
    → ReadsStep line (Step (Some (Const x y)) unnamed)
const_read parts first second done =
    step_read (codes "const") (two Const register constant)
    (plain_word (codes "const") refl refl refl) refl
    (λ c. refl) parts (two_read Const first second done)

pub clear_read : {line a e : List ℕ} {x : ℕ}
    → line ≡ codes "clear" ++ a → Takes register same a x e → e ≡ []
    → ReadsStep line (Step (Some (Clear x)) unnamed)
clear_read parts first done =
    step_read (codes "clear") (one Clear register) (plain_word (codes "clear") refl refl refl) refl
    (λ c. refl) parts (one_read Clear first done)

pub complete_read : {line a b e : List ℕ} {x : ℕ} {s : Status}
    → line ≡ codes "complete" ++ a → Takes register same a x b → TakesStatus b s e → e ≡ []
    → ReadsStep line (Step (Some (Complete x s)) unnamed)
complete_read parts first second done =
    step_read (codes "complete") (two Complete register status)
    (plain_word (codes "complete") refl refl refl) refl
    (λ c. refl) parts (two_read Complete first (status_taken second) done)

pub call_read : {line a b e n : List ℕ} {x : ℕ}
    → line ≡ codes "call" ++ a → Takes register same a x b → Takes called (with_routine n) b None e
    → e ≡ [] → ReadsStep line (Step (Some (Call x None)) (with_routine n unnamed))
call_read parts first second done =
    step_read (codes "call") (two Call register called)
    (plain_word (codes "call") refl refl refl) refl
    (λ c. refl) parts (two_read Call first second done)

pub calls_none : {line a e : List ℕ} {x : ℕ} → line ≡ codes "call" ++ a
    → Takes register same a x e → e ≡ [] → ReadsStep line (Step (Some (Call x None)) unnamed)
calls_none parts first done =
    step_read (codes "call") (two Call register called)
    (plain_word (codes "call") refl refl refl) refl (λ c. refl) parts (none_called first done)

pub disarm_read : {line a b e l : List ℕ} {x : ℕ}
    → line ≡ codes "disarm" ++ a → Takes register same a x b → Takes label (with_label l) b 0 e
    → e ≡ [] → ReadsStep line (Step (Some (Disarm x 0)) (with_label l unnamed))
disarm_read parts first second done =
    step_read (codes "disarm") (two Disarm register label)
    (plain_word (codes "disarm") refl refl refl) refl
    (λ c. refl) parts (two_read Disarm first second done)

pub dequeue_read : {line a e : List ℕ} {x : ℕ}
    → line ≡ codes "dequeue" ++ a → Takes register same a x e → e ≡ []
    → ReadsStep line (Step (Some (Dequeue x)) unnamed)
dequeue_read parts first done =
    step_read (codes "dequeue") (one Dequeue register)
    (plain_word (codes "dequeue") refl refl refl) refl
    (λ c. refl) parts (one_read Dequeue first done)

pub end_read : {line e : List ℕ}
    → line ≡ codes "end" ++ e → e ≡ [] → ReadsStep line (Step (Some End) unnamed)
end_read parts done =
    step_read (codes "end") (so_far End) (plain_word (codes "end") refl refl refl) refl
    (λ c. refl) parts (nothing_read End done)

pub get_read : {line a b c e : List ℕ} {x y : ℕ} {f : Field}
    → line ≡ codes "get" ++ a → Takes register same a x b → Takes register same b y c
    → Takes field same c f e → e ≡ [] → ReadsStep line (Step (Some (Get x y f)) unnamed)
get_read parts first second third done =
    step_read (codes "get") (three Get register register field)
    (plain_word (codes "get") refl refl refl) refl
    (λ c. refl) parts (three_read Get first second third done)

pub insert_read : {line a b e q : List ℕ} {x : ℕ}
    → line ≡ codes "insert" ++ a → Takes register same a x b → Takes queue (with_queue q) b 0 e
    → e ≡ [] → ReadsStep line (Step (Some (Insert x 0)) (with_queue q unnamed))
insert_read parts first second done =
    step_read (codes "insert") (two Insert register queue)
    (plain_word (codes "insert") refl refl refl) refl
    (λ c. refl) parts (two_read Insert first second done)

pub ifcancel_read : {line a b e l : List ℕ} {x : ℕ}
    → line ≡ codes "ifcancel" ++ a → Takes register same a x b → Takes label (with_label l) b 0 e
    → e ≡ [] → ReadsStep line (Step (Some (IfCancel x 0)) (with_label l unnamed))
ifcancel_read parts first second done =
    step_read (codes "ifcancel") (two IfCancel register label)
    (plain_word (codes "ifcancel") refl refl refl) refl
    (λ c. refl) parts (two_read IfCancel first second done)

pub ifpending_read : {line a b e l : List ℕ} {x : ℕ}
    → line ≡ codes "ifpending" ++ a → Takes register same a x b → Takes label (with_label l) b 0 e
    → e ≡ [] → ReadsStep line (Step (Some (IfPending x 0)) (with_label l unnamed))
ifpending_read parts first second done =
    step_read (codes "ifpending") (two IfPending register label)
    (plain_word (codes "ifpending") refl refl refl) refl
    (λ c. refl) parts (two_read IfPending first second done)

pub jz_read : {line a b e l : List ℕ} {x : ℕ}
    → line ≡ codes "jz" ++ a → Takes register same a x b → Takes label (with_label l) b 0 e
    → e ≡ [] → ReadsStep line (Step (Some (JumpIfZero x 0)) (with_label l unnamed))
jz_read parts first second done =
    step_read (codes "jz") (two JumpIfZero register label)
    (plain_word (codes "jz") refl refl refl) refl
    (λ c. refl) parts (two_read JumpIfZero first second done)

pub jlt_read : {line a b c e l : List ℕ} {x y : ℕ}
    → line ≡ codes "jlt" ++ a → Takes register same a x b → Takes register same b y c
    → Takes label (with_label l) c 0 e → e ≡ []
    → ReadsStep line (Step (Some (JumpIfLess x y 0)) (with_label l unnamed))
jlt_read parts first second third done =
    step_read (codes "jlt") (three JumpIfLess register register label)
    (plain_word (codes "jlt") refl refl refl) refl
    (λ c. refl) parts (three_read JumpIfLess first second third done)

pub jmp_read : {line a e l : List ℕ}
    → line ≡ codes "jmp" ++ a → Takes label (with_label l) a 0 e → e ≡ []
    → ReadsStep line (Step (Some (Jump 0)) (with_label l unnamed))
jmp_read parts first done =
    step_read (codes "jmp") (one Jump label) (plain_word (codes "jmp") refl refl refl) refl
    (λ c. refl) parts (one_read Jump first done)

pub load_read : {line a b e : List ℕ} {x y : ℕ}
    → line ≡ codes "load" ++ a → Takes register same a x b → Takes cell same b y e → e ≡ []
    → ReadsStep line (Step (Some (Load x y)) unnamed)
load_read parts first second done =
    step_read (codes "load") (two Load register cell)
    (plain_word (codes "load") refl refl refl) refl
    (λ c. refl) parts (two_read Load first second done)

pub loop_read : {line a e : List ℕ} {x : ℕ}
    → line ≡ codes "loop" ++ a → Takes turns same a x e → e ≡ []
    → ReadsStep line (Step (Some (Loop x)) unnamed)
loop_read parts first done =
    step_read (codes "loop") (one Loop turns) (plain_word (codes "loop") refl refl refl) refl
    (λ c. refl) parts (one_read Loop first done)

pub loadp_read : {line a b e : List ℕ} {x y : ℕ}
    → line ≡ codes "loadp" ++ a → Takes register same a x b → Takes paged_cell same b y e → e ≡ []
    → ReadsStep line (Step (Some (LoadPaged x y)) unnamed)
loadp_read parts first second done =
    step_read (codes "loadp") (two LoadPaged register paged_cell)
    (plain_word (codes "loadp") refl refl refl) refl
    (λ c. refl) parts (two_read LoadPaged first second done)

pub mov_read : {line a b e : List ℕ} {x y : ℕ}
    → line ≡ codes "mov" ++ a → Takes register same a x b → Takes register same b y e → e ≡ []
    → ReadsStep line (Step (Some (Move x y)) unnamed)
mov_read parts first second done =
    step_read (codes "mov") (two Move register register)
    (plain_word (codes "mov") refl refl refl) refl
    (λ c. refl) parts (two_read Move first second done)

pub mark_read : {line a e : List ℕ} {x : ℕ}
    → line ≡ codes "mark" ++ a → Takes register same a x e → e ≡ []
    → ReadsStep line (Step (Some (Mark x)) unnamed)
mark_read parts first done =
    step_read (codes "mark") (one Mark register) (plain_word (codes "mark") refl refl refl) refl
    (λ c. refl) parts (one_read Mark first done)

pub next_read : {line e : List ℕ}
    → line ≡ codes "next" ++ e → e ≡ [] → ReadsStep line (Step (Some Next) unnamed)
next_read parts done =
    step_read (codes "next") (so_far Next) (plain_word (codes "next") refl refl refl) refl
    (λ c. refl) parts (nothing_read Next done)

pub put_read : {line a b e : List ℕ} {x y : ℕ}
    → line ≡ codes "put" ++ a → Takes register same a x b → Takes register same b y e → e ≡ []
    → ReadsStep line (Step (Some (Put x y)) unnamed)
put_read parts first second done =
    step_read (codes "put") (two Put register register)
    (plain_word (codes "put") refl refl refl) refl
    (λ c. refl) parts (two_read Put first second done)

pub pass_read : {line a e : List ℕ} {x : ℕ}
    → line ≡ codes "pass" ++ a → Takes register same a x e → e ≡ []
    → ReadsStep line (Step (Some (Pass x)) unnamed)
pass_read parts first done =
    step_read (codes "pass") (one Pass register) (plain_word (codes "pass") refl refl refl) refl
    (λ c. refl) parts (one_read Pass first done)

pub ret_read : {line a e : List ℕ} {r : Return}
    → line ≡ codes "ret" ++ a → Takes returned same a r e → e ≡ []
    → ReadsStep line (Step (Some (Ret r)) unnamed)
ret_read parts first done =
    step_read (codes "ret") (one Ret returned) (plain_word (codes "ret") refl refl refl) refl
    (λ c. refl) parts (one_read Ret first done)

pub lower_read : {line a e : List ℕ} {x : ℕ} → line ≡ codes "ret lower" ++ a
    → Takes register same a x e → e ≡ [] → ReadsStep line (Step (Some (Ret (Lower x))) unnamed)
lower_read parts first done =
    step_read (codes "ret") (one Ret returned) (plain_word (codes "ret") refl refl refl) refl
    (λ c. refl) parts (lower_taken first done)

pub release_read : {line a e : List ℕ} {x : ℕ}
    → line ≡ codes "release" ++ a → Takes spin_lock same a x e → e ≡ []
    → ReadsStep line (Step (Some (Release x)) unnamed)
release_read parts first done =
    step_read (codes "release") (one Release spin_lock)
    (plain_word (codes "release") refl refl refl) refl
    (λ c. refl) parts (one_read Release first done)

pub relc_read : {line e : List ℕ}
    → line ≡ codes "relc" ++ e → e ≡ [] → ReadsStep line (Step (Some ReleaseCancel) unnamed)
relc_read parts done =
    step_read (codes "relc") (so_far ReleaseCancel) (plain_word (codes "relc") refl refl refl) refl
    (λ c. refl) parts (nothing_read ReleaseCancel done)

pub remove_read : {line a b c e q l : List ℕ} {x : ℕ}
    → line ≡ codes "remove" ++ a → Takes register same a x b → Takes queue (with_queue q) b 0 c
    → Takes label (with_label l) c 0 e → e ≡ []
    → ReadsStep line (Step (Some (Remove x 0 0)) (with_label l (with_queue q unnamed)))
remove_read parts first second third done =
    step_read (codes "remove") (three Remove register queue label)
    (plain_word (codes "remove") refl refl refl) refl
    (λ c. refl) parts (three_read Remove first second third done)

pub store_read : {line a b e : List ℕ} {x y : ℕ}
    → line ≡ codes "store" ++ a → Takes cell same a x b → Takes register same b y e → e ≡ []
    → ReadsStep line (Step (Some (Store x y)) unnamed)
store_read parts first second done =
    step_read (codes "store") (two Store cell register)
    (plain_word (codes "store") refl refl refl) refl
    (λ c. refl) parts (two_read Store first second done)

pub storep_read : {line a b e : List ℕ} {x y : ℕ}
    → line ≡ codes "storep" ++ a → Takes paged_cell same a x b → Takes register same b y e → e ≡ []
    → ReadsStep line (Step (Some (StorePaged x y)) unnamed)
storep_read parts first second done =
    step_read (codes "storep") (two StorePaged paged_cell register)
    (plain_word (codes "storep") refl refl refl) refl
    (λ c. refl) parts (two_read StorePaged first second done)

pub sub_read : {line a b e : List ℕ} {x y : ℕ}
    → line ≡ codes "sub" ++ a → Takes register same a x b → Takes register same b y e → e ≡ []
    → ReadsStep line (Step (Some (Subtract x y)) unnamed)
sub_read parts first second done =
    step_read (codes "sub") (two Subtract register register)
    (plain_word (codes "sub") refl refl refl) refl
    (λ c. refl) parts (two_read Subtract first second done)

pub start_read : {line a e : List ℕ} {x : ℕ}
    → line ≡ codes "start" ++ a → Takes register same a x e → e ≡ []
    → ReadsStep line (Step (Some (Start x)) unnamed)
start_read parts first done =
    step_read (codes "start") (one Start register) (plain_word (codes "start") refl refl refl) refl
    (λ c. refl) parts (one_read Start first done)

pub take_read : {line a b e l : List ℕ} {x : ℕ}
    → line ≡ codes "take" ++ a → Takes register same a x b → Takes label (with_label l) b 0 e
    → e ≡ [] → ReadsStep line (Step (Some (Take x 0)) (with_label l unnamed))
take_read parts first second done =
    step_read (codes "take") (two Take register label)
    (plain_word (codes "take") refl refl refl) refl
    (λ c. refl) parts (two_read Take first second done)

pub unlink_read : {line a b e q : List ℕ} {x : ℕ}
    → line ≡ codes "unlink" ++ a → Takes register same a x b → Takes queue (with_queue q) b 0 e
    → e ≡ [] → ReadsStep line (Step (Some (Unlink x 0)) (with_queue q unnamed))
unlink_read parts first second done =
    step_read (codes "unlink") (two Unlink register queue)
    (plain_word (codes "unlink") refl refl refl) refl
    (λ c. refl) parts (two_read Unlink first second done)
