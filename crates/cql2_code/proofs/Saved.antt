-- The first instructions of a program pass the verifier's checks: they keep the record's pointer, and set the registers that keep numbers.
use Rattle.std.proofs.Common.{pos, Bool, true, false, [], ◌∷◌, refl, arith}
use Rattle.bpf_kinds.proofs.KindLemmas as kinds
use Rattle.bpf_kinds.specs.Interval.{single}
use Rattle.bpf_kinds.specs.Kind as kind
use Rattle.bpf_kinds.specs.declared.kind.Kind.{Kind}
use Rattle.bpf_kinds.specs.declared.kind.Kind.TheVariants.{Number, Nothing}
use Rattle.cql2_code.specs.Layout.{copy, from_argument_1, into_saved, into_record, saved_code, move}
use Rattle.cql2_code.proofs.AbstractState.{Held, SavedKinds, any_number, forgets, keeps_more, saved_kinds, knowing, knowing_saved, nothing, rests_after}
use Rattle.cql2_code.proofs.AbstractState.{resting, setting_7, setting_8, setting_9, to_record}
use Rattle.cql2_code.proofs.Passes.{AllPass, Passes}

-- register 1 still holds the record's pointer after the first instruction
abbrev first : Held
first = record nothing { v1 = to_record }

abbrev only_zero : Kind
only_zero = Number (single 0)

abbrev none : SavedKinds
none = saved_kinds Nothing Nothing Nothing

zero_among : kind.IsWithin only_zero any_number
zero_among = record { low = omega arith; high = omega arith }

any_within : kind.IsWithin any_number any_number
any_within = kinds.reflexive any_number

keeps_record : Passes true (copy into_record from_argument_1) setting_7
keeps_record = record {
  after = knowing_saved (Nothing ∷ Nothing ∷ Nothing ∷ []) first;
  passes = refl;
  straight = refl;
  within = keeps_more none none first nothing (record { v7 = tt; v8 = tt; v9 = tt }) (forgets first);
}

sets_7 : Passes true (move (into_saved 0) (pos 0)) setting_8
sets_7 = record {
  after = knowing_saved (only_zero ∷ Nothing ∷ Nothing ∷ []) nothing;
  passes = refl;
  straight = refl;
  within = keeps_more (saved_kinds only_zero Nothing Nothing) (saved_kinds any_number Nothing Nothing) nothing nothing
      (record { v7 = zero_among; v8 = tt; v9 = tt }) (forgets nothing);
}

sets_8 : Passes true (move (into_saved 1) (pos 0)) setting_9
sets_8 = record {
  after = knowing_saved (any_number ∷ only_zero ∷ Nothing ∷ []) nothing;
  passes = refl;
  straight = refl;
  within = keeps_more (saved_kinds any_number only_zero Nothing) (saved_kinds any_number any_number Nothing) nothing nothing
      (record { v7 = any_within; v8 = zero_among; v9 = tt }) (forgets nothing);
}

sets_9 : Passes true (move (into_saved 2) (pos 0)) (resting true)
sets_9 = record {
  after = knowing_saved (any_number ∷ any_number ∷ only_zero ∷ []) nothing;
  passes = refl;
  straight = refl;
  within = keeps_more (saved_kinds any_number any_number only_zero) (saved_kinds any_number any_number any_number) nothing nothing
      (record { v7 = any_within; v8 = any_within; v9 = zero_among }) (forgets nothing);
}

pub first_passes : (keeps : Bool) → AllPass keeps (copy into_record from_argument_1 ∷ saved_code keeps) (resting keeps)
first_passes true = (keeps_record, (sets_7, (sets_8, (sets_9, tt))))
first_passes false = (record { after = knowing false first; passes = refl; straight = refl; within = rests_after false first }, tt)
