-- What contracts see of a source and a sink, and what a caller did to one.
use Rattle.std.specs.Prelude.{◌≡◌, ℕ, ◌<◌, ◌≤◌, Bool, true, false, List, ◌++◌, length, Option, Some}
use Rattle.std.specs.Io.KnownBytes.{Appends}
use Rattle.std.proofs.Common.{arith}
use Rattle.vino_base.specs.declared.health.Health.{Health}
use Rattle.vino_base.specs.declared.health.Health.TheVariants.{Sound, Broken, CalledAgain}
use Rattle.vino_base.specs.Faults.{Rose}

-- what is seen of each device: how many faults it had, and whether a call has failed, where it
-- tells that
pub record DeviceSeen : Type 0 where
  pub faults : ℕ
  pub health : Option Health

-- what is seen of a source: the bytes that are left, where it tells them
pub record SourceSeen : Type 0 where
  pub rest : Option (List ℕ)
  pub device : DeviceSeen

-- what is seen of a sink: the bytes that it took, where it tells them
pub record SinkSeen : Type 0 where
  pub got : Option (List ℕ)
  pub device : DeviceSeen

-- the health after one more call, which failed or not
abbrev pub health_after : (failed : Bool) → Health → Health
health_after false Sound = Sound
health_after true Sound = Broken
health_after failed Broken = CalledAgain
health_after failed CalledAgain = CalledAgain

-- A device was used, and its last call failed, or none did: its count of faults never falls, it rose
-- for a failure, and no call came behind one that failed.
pub record IsUsed (before now : DeviceSeen) (failed : Bool) : Type 0 where
  pub later : before.faults ≤ now.faults
  pub rose : failed ≡ true → Rose before.faults now.faults
  pub stops : before.health ≡ Some Sound → now.health ≡ Some (health_after failed Sound)

-- the sink took a part of these bytes, not whole
pub record AppendsPart (old new : Option (List ℕ)) (bytes : List ℕ) : Type 0 where
  pub part : List ℕ
  pub more : List ℕ
  pub whole : bytes ≡ part ++ more
  pub lacks : 0 < length more
  pub appended : Appends old new part

-- ---- laws

-- a device that wasn't called
pub not_used : (a : DeviceSeen) → IsUsed a a false
not_used a = record { later = omega arith; rose = λ h. cc; stops = λ h. h }

-- a device that was used twice, of which the first time didn't fail
pub used_then : {a b c : DeviceSeen} {failed : Bool} → IsUsed a b false → IsUsed b c failed →
    IsUsed a c failed
used_then {a} {b} {c} {failed} first more = record {
  later = omega (arith, first.later, more.later);
  rose = λ h. rises a.faults b.faults c.faults first.later (more.rose h);
  stops = λ h. more.stops (first.stops h);
}
  where
    rises : (n m k : ℕ) → n ≤ m → Rose m k → Rose n k
    rises n m k h r = omega (arith, h, r)
