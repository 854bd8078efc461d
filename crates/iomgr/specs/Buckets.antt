-- The slots of live packets, in buckets by the packets' numbers.
use Rattle.std.specs.Prelude.{◌≡◌, ◌%◌, ℕ, Bool, false, Option, None, Some, length, nat_eq}
use Rattle.model.specs.declared.limits.TheConstants.{MAX_LIVE_PACKETS}
use Rattle.model.specs.declared.world.Packet.{Packet}
use Rattle.model.specs.Queues.{is_linked}
use Rattle.devqueue.specs.Lists.{Lists, entries_of}
use Rattle.iomgr.specs.Numbers.{Rising, numbers_of}
use Rattle.iomgr.specs.Slots.{Slots, lies_at}

-- the bucket of a number
abbrev pub bucket_of : ℕ → ℕ
bucket_of n = n % MAX_LIVE_PACKETS

-- what lies somewhere is a packet whose number belongs to a bucket
abbrev pub is_of_bucket : Option Packet → ℕ → Bool
is_of_bucket None bucket = false
is_of_bucket (Some p) bucket = nat_eq (bucket_of p.number) bucket

-- it is the packet of a number
abbrev pub has_number : Option Packet → ℕ → Bool
has_number None n = false
has_number (Some p) n = nat_eq p.number n

-- so many buckets for as many slots, that are all empty
pub record AreEmpty (count : ℕ) (buckets : Lists) : Type 0 where
  pub slots : buckets.slots ≡ count
  pub lists : length buckets.lists ≡ count
  pub none : (bucket slot : ℕ) → is_linked (entries_of buckets bucket) slot ≡ false

-- numbers rise as packets are issued, and a slot is in a bucket exactly where a packet lies there
-- whose number belongs to that bucket. There are as many of both as packets may live
pub record IsNumbered (live : Slots) (buckets : Lists) (issued : ℕ) : Type 0 where
  pub rising : Rising 0 issued (numbers_of live.packets)
  pub slots : buckets.slots ≡ MAX_LIVE_PACKETS
  pub lists : length buckets.lists ≡ MAX_LIVE_PACKETS
  pub listed : (bucket slot : ℕ) → is_linked (entries_of buckets bucket) slot
      ≡ is_of_bucket (lies_at live slot) bucket
