-- Pointer kinds can be stored only in a slot.
use Rattle.std.proofs.Common.{◌≡◌, ◌≢◌, ℕ, Some, None, Ok, Err, refl}
use Rattle.bpf_kinds.specs.declared.kind.Kind.{Kind}
use Rattle.bpf_kinds.specs.declared.kind.Kind.TheVariants.{Record, Frame, Nothing}
use Rattle.bpf_kinds.specs.declared.offsets.Offsets.{Offsets}
use Rattle.bpf_meaning.specs.declared.cause.Cause.TheVariants.{StoresPointer}
use Rattle.bpf_verify.specs.Transfer.{storable}

pub record ArePointers (k : Kind) : Type 0 where
  pub known : k ≢ Nothing
  pub nowhere : storable None k ≡ Err StoresPointer
  pub somewhere : (slot : ℕ) → storable (Some slot) k ≡ Ok k

pub record_pointers : (x : Offsets) → ArePointers (Record x)
record_pointers x = record { known = λ e. cc; nowhere = refl; somewhere = λ slot. refl }

pub frame_pointers : (x : Offsets) → ArePointers (Frame x)
frame_pointers x = record { known = λ e. cc; nowhere = refl; somewhere = λ slot. refl }
