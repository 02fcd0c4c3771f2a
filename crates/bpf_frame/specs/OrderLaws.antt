-- Maps of a frame are partially ordered, and joins are least upper bounds.
use Rattle.std.proofs.Common.{◌≡◌, ℕ, suc, zero, ◌/◌, ◌<◌, Bool, true, false, ◌&&◌, List, [], ◌∷◌, length, get_or, sym, ap, subst, ◌∙◌, refl, arith}
use Rattle.std.proofs.lemmas.Bool.{and_parts, and_from, and_left}
use Rattle.std.proofs.lemmas.List.{ext_get_or}
use Rattle.bpf_insn.specs.Frame.{FrameContents, slot_value}
use Rattle.bpf_insn.specs.declared.memory.TheConstants.{SLOT_LENGTH}
use Rattle.bpf_kinds.specs.Kind as kind
use Rattle.bpf_kinds.specs.Order.{IsOrder}
use Rattle.bpf_kinds.specs.declared.kind.Kind.{Kind}
use Rattle.bpf_kinds.specs.declared.kind.Kind.TheVariants.{Number, Record, Frame, Nothing}
use Rattle.bpf_kinds.proofs.KindLemmas as kinds
use Rattle.bpf_kinds.proofs.ListLemmas.{length-join_kinds, get_or-join_kinds}
use Rattle.bpf_frame.specs.FrameMap.{Contents, IsProper, IsMarked, FitsKind, slot_kind, Admits, IsWithin, join_marks, join}

-- the join of lists of marks of the same length has their length
length-join_marks : (xs ys : List Bool) → length xs ≡ length ys → length (join_marks xs ys) ≡ length xs
length-join_marks [] ys same = refl
length-join_marks (x ∷ xs) [] same = absurd (omega arith)
length-join_marks (x ∷ xs) (y ∷ ys) same = ap suc (length-join_marks xs ys (omega arith))

-- the mark of a byte in the join of marks
pub get_or-join : (xs ys : List Bool) (at : ℕ) → length xs ≡ length ys → get_or (join_marks xs ys) at false ≡ (get_or xs at false && get_or ys at false)
get_or-join [] [] at same = refl
get_or-join [] (y ∷ ys) at same = absurd (omega arith)
get_or-join (x ∷ xs) [] at same = absurd (omega arith)
get_or-join (x ∷ xs) (y ∷ ys) zero same = refl
get_or-join (x ∷ xs) (y ∷ ys) (suc at) same = get_or-join xs ys at (omega arith)

-- the kind of a slot in the join of maps
pub slot_kind-join : (x y : Contents) (slot : ℕ) → IsProper x → IsProper y → slot_kind (join x y) slot ≡ kind.join (slot_kind x slot) (slot_kind y slot)
slot_kind-join x y slot proper-x proper-y = get_or-join_kinds x.kinds y.kinds slot (proper-x.slots ∙ sym proper-y.slots)

-- a byte that is marked in a join is marked in both
pub marked_in_both : (x y : Contents) (at : ℕ) → IsProper x → IsProper y → IsMarked (join x y).marks at
    → IsMarked x.marks at × IsMarked y.marks at
marked_in_both x y at proper-x proper-y marked =
    and_parts _ _ (sym (get_or-join x.marks y.marks at (proper-x.count ∙ sym proper-y.count)) ∙ marked)

-- a byte that is marked in both is marked in the join
pub marked_in_join : (x y : Contents) (at : ℕ) → IsProper x → IsProper y → IsMarked x.marks at → IsMarked y.marks at
    → IsMarked (join x y).marks at
marked_in_join x y at proper-x proper-y left right =
    get_or-join x.marks y.marks at (proper-x.count ∙ sym proper-y.count) ∙ and_from _ _ left right

pub same_tests : (a b : Bool) → (b ≡ true → a ≡ true) → (a ≡ true → b ≡ true) → a ≡ b
same_tests true b below above = sym (above refl)
same_tests false true below above = below refl
same_tests false false below above = refl

same_parts : (marks others : List Bool) (kinds other_kinds : List Kind) → marks ≡ others → kinds ≡ other_kinds
    → let x : Contents = record { marks = marks; kinds = kinds } in let y : Contents = record { marks = others; kinds = other_kinds } in x ≡ y
same_parts marks others kinds other_kinds same_marks same_kinds = cc

-- maps are equal if their parts are
pub same_maps : (x y : Contents) → x.marks ≡ y.marks → x.kinds ≡ y.kinds → x ≡ y
same_maps x y same_marks same_kinds = same_parts x.marks y.marks x.kinds y.kinds same_marks same_kinds

pub reflexive : (x : Contents) → IsWithin x x
reflexive x = record { marks = λ at marked. marked; kinds = λ slot. kinds.reflexive (slot_kind x slot) }

pub transitive : (x y z : Contents) → IsWithin x y → IsWithin y z → IsWithin x z
transitive x y z below above = record {
  marks = λ at marked. below.marks at (above.marks at marked);
  kinds = λ slot. kinds.transitive _ _ _ (below.kinds slot) (above.kinds slot);
}

pub antisymmetric : (x y : Contents) → IsProper x → IsProper y → IsWithin x y → IsWithin y x → x ≡ y
antisymmetric x y proper-x proper-y below above =
    same_maps x y
    (ext_get_or false x.marks y.marks (proper-x.count ∙ sym proper-y.count) (λ at _. same_tests _ _ (below.marks at) (above.marks at)))
    (ext_get_or Nothing x.kinds y.kinds (proper-x.slots ∙ sym proper-y.slots)
    (λ slot _. kinds.antisymmetric _ _ (proper-x.kinds slot) (proper-y.kinds slot) (below.kinds slot) (above.kinds slot)))

-- a mark in both fits the join of both kinds
fit_join : (k l : Kind) (mark other : Bool) → FitsKind k mark → FitsKind l other → FitsKind (kind.join k l) (mark && other)
fit_join (Number x) (Number y) mark other left right = and_from _ _ left right
fit_join (Record x) (Record y) mark other left right = and_left _ _ left
fit_join (Frame x) (Frame y) mark other left right = and_left _ _ left
fit_join k l mark other left right = tt

pub join_is_proper : (x y : Contents) → IsProper x → IsProper y → IsProper (join x y)
join_is_proper x y proper-x proper-y = record {
  count = length-join_marks x.marks y.marks (proper-x.count ∙ sym proper-y.count) ∙ proper-x.count;
  slots = length-join_kinds x.kinds y.kinds (proper-x.slots ∙ sym proper-y.slots) ∙ proper-x.slots;
  kinds = λ slot. subst kind.IsProper (sym (slot_kind-join x y slot proper-x proper-y)) (kinds.join-proper _ _ (proper-x.kinds slot) (proper-y.kinds slot));
  fit = λ at.
      subst (λ (k : Kind). FitsKind k (get_or (join_marks x.marks y.marks) at false)) (sym (slot_kind-join x y (at / SLOT_LENGTH) proper-x proper-y))
      (subst (FitsKind (kind.join (slot_kind x (at / SLOT_LENGTH)) (slot_kind y (at / SLOT_LENGTH))))
      (sym (get_or-join x.marks y.marks at (proper-x.count ∙ sym proper-y.count)))
      (fit_join (slot_kind x (at / SLOT_LENGTH)) (slot_kind y (at / SLOT_LENGTH)) _ _ (proper-x.fit at) (proper-y.fit at)));
}

pub left_is_within_join : (x y : Contents) → IsProper x → IsProper y → IsWithin x (join x y)
left_is_within_join x y proper-x proper-y = record {
  marks = λ at marked. (marked_in_both x y at proper-x proper-y marked).0;
  kinds = λ slot. subst (kind.IsWithin (slot_kind x slot)) (sym (slot_kind-join x y slot proper-x proper-y)) (kinds.left-within_join _ _ (proper-x.kinds slot) (proper-y.kinds slot));
}

pub right_is_within_join : (x y : Contents) → IsProper x → IsProper y → IsWithin y (join x y)
right_is_within_join x y proper-x proper-y = record {
  marks = λ at marked. (marked_in_both x y at proper-x proper-y marked).1;
  kinds = λ slot. subst (kind.IsWithin (slot_kind y slot)) (sym (slot_kind-join x y slot proper-x proper-y)) (kinds.right-within_join _ _ (proper-x.kinds slot) (proper-y.kinds slot));
}

pub join_is_least : (x y z : Contents) → IsProper x → IsProper y → IsWithin x z → IsWithin y z → IsWithin (join x y) z
join_is_least x y z proper-x proper-y left right = record {
  marks = λ at marked. marked_in_join x y at proper-x proper-y (left.marks at marked) (right.marks at marked);
  kinds = λ slot. subst (λ (joined : Kind). kind.IsWithin joined (slot_kind z slot)) (sym (slot_kind-join x y slot proper-x proper-y))
      (kinds.join-least _ _ _ (left.kinds slot) (right.kinds slot));
}

pub admits_more : (x y : Contents) (frame : FrameContents) → IsWithin x y → Admits x frame → Admits y frame
admits_more x y frame below admitted = record {
  written = λ at marked. admitted.written at (below.marks at marked);
  slots = λ slot. kinds.admits_more _ _ (slot_value frame slot) (below.kinds slot) (admitted.slots slot);
}

-- marks that are each the mark in both lists are those of the join
pub is_join : (xs ys marks : List Bool) (n : ℕ) → length xs ≡ n → length ys ≡ n → length marks ≡ n
    → ((at : ℕ) → at < n → get_or marks at false ≡ (get_or xs at false && get_or ys at false)) → marks ≡ join_marks xs ys
is_join xs ys marks n left right count each =
    let both : length xs ≡ length ys = left ∙ sym right in
    ext_get_or false marks _ (count ∙ sym (length-join_marks xs ys both ∙ left))
    (λ at within. each at (omega arith) ∙ sym (get_or-join xs ys at both))

pub is_order : IsOrder IsProper Admits IsWithin join
is_order = record {
  reflexive = λ x proper. reflexive x;
  transitive = λ x y z proper-x proper-y proper-z. transitive x y z;
  antisymmetric = antisymmetric;
  join_is_proper = join_is_proper;
  left_is_within_join = left_is_within_join;
  right_is_within_join = right_is_within_join;
  join_is_least = λ x y z proper-x proper-y proper-z. join_is_least x y z proper-x proper-y;
  admits_more = λ x y frame proper-x proper-y. admits_more x y frame;
}
