-- A kind by two numbers, as it is compared.
use Rattle.std.specs.Prelude.{ℕ, ◌+◌, suc, Bool, true, false, nat_eq, ◌&&◌, List, [], ◌∷◌}
use Rattle.model.specs.declared.abs.Kind.{Kind}
use Rattle.model.specs.declared.abs.Kind.TheVariants.{Blank, Num, Lower, New, Own, Queued, View}
use Rattle.model.specs.declared.set.QueueName.{QueueName}
use Rattle.model.specs.declared.set.QueueName.TheVariants.{Declared, DeviceQueue}
use Rattle.model.specs.Kinds.{stage_number}

-- what it says, its list apart
abbrev pub shape : Kind → ℕ
shape Blank = 0
shape Num = 1
shape Lower = 2
shape New = 3
shape Own = 4
shape View = 5
shape (Queued name stage) = 6 + stage_number stage

-- the number of a list: the device queue, and the queues that the driver declares after it
abbrev pub name_number : QueueName → ℕ
name_number DeviceQueue = 0
name_number (Declared queue) = suc queue

-- of the one that it names
abbrev pub queue_number : Kind → ℕ
queue_number (Queued name stage) = name_number name
queue_number Blank = 0
queue_number Num = 0
queue_number Lower = 0
queue_number New = 0
queue_number Own = 0
queue_number View = 0

-- it names a list
abbrev pub has_list : Kind → Bool
has_list (Queued name stage) = true
has_list _ = false

-- kinds say the same one by one, their lists apart
abbrev pub same_shapes : List Kind → List Kind → Bool
same_shapes [] [] = true
same_shapes [] (b ∷ ys) = false
same_shapes (a ∷ xs) [] = false
same_shapes (a ∷ xs) (b ∷ ys) = nat_eq (shape a) (shape b) && same_shapes xs ys

-- they name lists of the same numbers
abbrev pub same_queues : List Kind → List Kind → Bool
same_queues [] [] = true
same_queues [] (b ∷ ys) = false
same_queues (a ∷ xs) [] = false
same_queues (a ∷ xs) (b ∷ ys) = nat_eq (queue_number a) (queue_number b) && same_queues xs ys
