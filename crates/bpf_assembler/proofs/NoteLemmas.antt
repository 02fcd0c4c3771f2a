-- The notes of one more statement.
use Rattle.std.proofs.Common.{◌≡◌, ℕ, suc, ◌+◌, ◌≤◌, List, [], ◌∷◌, ◌++◌, length, map, Option, Some, None, Result, Ok, Err, Bool, true}
use Rattle.std.proofs.Common.{false, cond, refl, sym, ap, ◌∙◌, subst, is_some, drop, get_or, inl, inr, add-one, drop-cons, ◌<◌, Bor, pos}
use Rattle.std.proofs.Common.{◌-ℤ◌, arith}
use Rattle.std.specs.Prelude.{◌==◌}
use Rattle.std.specs.Str.Lines.{lines}
use Rattle.std.proofs.lemmas.Bool.{false≢true, le-ltb}
use Rattle.std.proofs.lemmas.Bool.Decides.{nat_tests}
use Rattle.std.proofs.lemmas.List.{append-nil, append_assoc, map-append, length-append}
use Rattle.std.proofs.lemmas.Slice.Eq.{bytes_eq-Decides}
use Rattle.std.specs.Str.{bytes_eq}
use Rattle.std.specs.BTreeMap.{BTreeMap, is_at}
use Rattle.std.specs.Map.{lookup}
use Rattle.std.specs.Cmp.Lexicographic.{slice_cmp}
use Rattle.std.specs.Ordering.{nat_cmp}
use Rattle.bpf_assembler.specs.declared.fault.TextFault.{TextFault}
use Rattle.bpf_assembler.specs.declared.fault.TextFault.TheVariants.{InLine}
use Rattle.bpf_insn.specs.Form.{spelling}
use Rattle.bpf_insn.specs.declared.instruction.Insn.{Insn}
use Rattle.bpf_assembler.specs.declared.assembler.Item.{Item}
use Rattle.bpf_insn.specs.declared.code.TheConstants.{MAX_WORDS}
use Rattle.bpf_assembler.specs.declared.fault.TextFaultKind.{TextFaultKind}
use Rattle.bpf_assembler.specs.Statement.{Statement, Blank, Label, Instruction, statement_in}
use Rattle.bpf_assembler.specs.Text as text
use Rattle.bpf_assembler.specs.Text.{words_of, label_place, items_from, item, fault_after, refusal_after, HasFirstFaultAt, onto_code, code_from}
use Rattle.bpf_assembler.specs.Text.{resolve, resolve_at, jump_to, jump_by, at_distance}
use Rattle.bpf_assembler.specs.View.{name_view}
use Rattle.bpf_assembler.specs.Notes.{item_view, AreNotesOf, HasRead, HasNotes, ReadsNotes, IsRefusal, places_in}
use Rattle.bpf_assembler.proofs.StatementLemmas.{words-snoc, items-snoc, label-snoc, first_of, faultless-snoc, length-meant}

first-none : (place : Option ℕ) → first_of place None ≡ place
first-none (Some place) = refl
first-none None = refl

pub noted-blank : (items : List Item) (labels : List ℕ → Option ℕ) (words : ℕ) (before : List Statement)
    → AreNotesOf items labels words before → AreNotesOf items labels words (before ++ Blank ∷ [])
noted-blank items labels words before notes = record {
  items_are = notes.items_are ∙ sym (items-snoc 1 0 before Blank ∙ append-nil (items_from 1 0 before));
  labels_are = λ name. notes.labels_are name ∙ sym (label-snoc 0 name before Blank ∙ first-none (label_place name before));
  words_are = omega (arith, notes.words_are, words-snoc before Blank);
}

label-by : (name other : List ℕ) (words : ℕ) (earlier : Option ℕ) (test : Bool) → (test ≡ true → earlier ≡ None)
    → cond test (Some words) earlier ≡ first_of earlier (cond test (Some words) None)
label-by name other words earlier true absent = rw (absent refl) refl
label-by name other words earlier false absent = sym (first-none earlier)

pub noted-label : {items : List Item} {old : List ℕ → Option ℕ} (new : List ℕ → Option ℕ) {words : ℕ} {before : List Statement}
    (name : List ℕ) → AreNotesOf items old words before → label_place name before ≡ None
    → ((other : List ℕ) → new other ≡ cond (bytes_eq name other) (Some words) (old other))
    → AreNotesOf items new words (before ++ Label name ∷ [])
noted-label new {words} {before} name notes absent updated = record {
  items_are = notes.items_are ∙ sym (items-snoc 1 0 before (Label name) ∙ append-nil (items_from 1 0 before));
  labels_are = λ other.
      let missing : bytes_eq name other ≡ true → label_place other before ≡ None =
      λ same. subst (λ (n : List ℕ). label_place n before ≡ None) ((bytes_eq-Decides name other).0 same) absent in
      let words_are : words ≡ 0 + words_of before = omega (arith, notes.words_are) in
      updated other ∙ ap (cond (bytes_eq name other) (Some words)) (notes.labels_are other)
      ∙ label-by name other words (label_place other before) (bytes_eq name other) missing
      ∙ ap (λ (n : ℕ). first_of (label_place other before) (cond (bytes_eq name other) (Some n) None)) words_are
      ∙ sym (label-snoc 0 other before (Label name));
  words_are = omega (arith, notes.words_are, words-snoc before (Label name));
}

pub noted-instruction : {items : List Item} {labels : List ℕ → Option ℕ} {words : ℕ} {before : List Statement} (new : Item) (insn : Insn)
    (target : Option (List ℕ))
    → AreNotesOf items labels words before → item_view new ≡ item (suc (length before)) words insn target
    → AreNotesOf (items ++ new ∷ []) labels (words + length (spelling insn)) (before ++ Instruction insn target ∷ [])
noted-instruction {items} {words} {before} new insn target notes is = record {
  items_are =
      let lines : suc (length before) ≡ 1 + length before = omega arith in
      let places : words ≡ 0 + words_of before = omega (arith, notes.words_are) in
      let last : item_view new ∷ [] ≡ items_from (1 + length before) (0 + words_of before) (Instruction insn target ∷ []) =
      ap (λ (i : text.Item). i ∷ []) is ∙ ap (λ (n : ℕ). item n words insn target ∷ []) lines
      ∙ ap (λ (n : ℕ). item (1 + length before) n insn target ∷ []) places in
      map-append item_view items (new ∷ []) ∙ ap (λ (xs : List text.Item). xs ++ item_view new ∷ []) notes.items_are
      ∙ ap (λ (xs : List text.Item). items_from 1 0 before ++ xs) last ∙ sym (items-snoc 1 0 before (Instruction insn target));
  labels_are = λ name. notes.labels_are name ∙ sym (label-snoc 0 name before (Instruction insn target)
      ∙ first-none (label_place name before));
  words_are = omega (arith, notes.words_are, words-snoc before (Instruction insn target));
}

-- a label that no statement defines
absent-by : (place : Option ℕ) → false ≡ is_some place → place ≡ None
absent-by None test = refl
absent-by (Some place) test = absurd (false≢true test)

pub absent-label : (before : List Statement) (name : List ℕ) (found : Option ℕ) → found ≡ label_place name before → false ≡ is_some found
    → label_place name before ≡ None
absent-label before name found same test = absent-by (label_place name before) (test ∙ ap is_some same)

pub faultless-label : (before : List Statement) (name : List ℕ) → label_place name before ≡ None → fault_after before (Label name) ≡ None
faultless-label before name absent = rw absent refl

pub faultless-instruction : (before : List Statement) (insn : Insn) (target : Option (List ℕ))
    → words_of before + length (spelling insn) ≤ MAX_WORDS → fault_after before (Instruction insn target) ≡ None
faultless-instruction before insn target fits = rw (le-ltb _ _ fits) refl

-- one more line
pub read-counted : (text rest : List ℕ) (number : ℕ) (items : List Item) (labels : List ℕ → Option ℕ) (words : ℕ)
    (read : HasRead text rest number items labels words) → number + 1 ≡ suc (length read.statements)
read-counted text rest number items labels words read = omega (arith, read.counted, length-meant read.front read.statements read.meant)

pub read-more : {text rest line : List ℕ} (after : List ℕ) {number : ℕ} {items new_items : List Item}
    {labels new_labels : List ℕ → Option ℕ} {words new_words : ℕ} {statement : Statement}
    (read : HasRead text rest number items labels words) → lines rest ≡ line ∷ lines after → statement_in line ≡ Ok statement
    → fault_after read.statements statement ≡ None → AreNotesOf new_items new_labels new_words (read.statements ++ statement ∷ [])
    → HasRead text after (number + 1) new_items new_labels new_words
read-more {line} after {statement} read cut means none noted = record {
  statements = read.statements ++ statement ∷ [];
  front = read.front ++ line ∷ [];
  split = read.split ∙ ap (λ (xs : List (List ℕ)). read.front ++ xs) cut ∙ sym (append_assoc read.front (line ∷ []) (lines after));
  counted = omega (arith, read.counted, length-append read.front (line ∷ []));
  meant = map-append statement_in read.front (line ∷ []) ∙ ap (λ (xs : List (Result Statement TextFaultKind)). xs ++ statement_in line ∷ [])
      read.meant ∙ ap (λ (r : Result Statement TextFaultKind). map Ok read.statements ++ r ∷ []) means
      ∙ sym (map-append Ok read.statements (statement ∷ []));
  faultless = faultless-snoc [] read.statements statement read.faultless none;
  noted = noted;
}

pub read-fault : {text rest line : List ℕ} (after : List ℕ) {number : ℕ} {items : List Item} {labels : List ℕ → Option ℕ} {words : ℕ}
    {why : TextFaultKind} (read : HasRead text rest number items labels words) → lines rest ≡ line ∷ lines after
    → refusal_after read.statements (statement_in line) ≡ Some why → HasFirstFaultAt text (number + 1) why
read-fault {line} after read cut refused = record {
  before = read.statements;
  front = read.front;
  faulty = line;
  back = lines after;
  split = read.split ∙ ap (λ (xs : List (List ℕ)). read.front ++ xs) cut;
  meant = read.meant;
  faultless = read.faultless;
  numbered = omega (arith, read.counted);
  refused = refused;
}

pub read-none : (text : List ℕ) (items : List Item) (labels : List ℕ → Option ℕ) (words : ℕ) → AreNotesOf items labels words []
    → HasRead text text 0 items labels words
read-none text items labels words noted = record {
  statements = [];
  front = [];
  split = refl;
  counted = refl;
  meant = refl;
  faultless = tt;
  noted = noted;
}

empty-list : (rest : List ℕ) → (length rest == 0) ≡ true → rest ≡ []
empty-list [] none = refl
empty-list (byte ∷ rest) none = absurd (grind (arith, nat_tests))

pub read-all : (text rest : List ℕ) (number : ℕ) (items : List Item) (labels : List ℕ → Option ℕ) (words : ℕ)
    → HasRead text rest number items labels words → (length rest == 0) ≡ true → HasNotes text items labels words
read-all text rest number items labels words read none =
    let whole : lines text ≡ read.front = read.split ∙ ap (λ (r : List ℕ). read.front ++ lines r) (empty-list rest none)
    ∙ append-nil read.front in
    record {
      statements = read.statements;
      has_statements = record { meant = ap (map statement_in) whole ∙ read.meant; faultless = read.faultless };
      noted = read.noted;
    }

-- a jump to a label
pub resolve-found : (statements : List Statement) (it : Item) (name : Bor (List ℕ)) (target : ℕ) → it.target ≡ Some name
    → label_place name.now statements ≡ Some target → resolve statements (item_view it) ≡ jump_by
    (at_distance (pos target -ℤ pos (it.place + 1)) it.insn)
resolve-found statements it name target names found = ap
    (λ (t : Option (Bor (List ℕ))). resolve_at statements it.place it.insn (name_view t)) names ∙ ap (jump_to it.place it.insn) found

pub noted-new : (items : List Item) (labels : BTreeMap (Bor (List ℕ)) ℕ) → items ≡ [] → labels.entries ≡ []
    → AreNotesOf items (places_in labels) 0 []
noted-new items labels none empty = record {
  items_are = ap (map item_view) none;
  labels_are = λ name. ap (λ (es : List (Bor (List ℕ) × ℕ)). lookup (is_at (λ key. slice_cmp nat_cmp name key.now)) es) empty;
  words_are = refl;
}

pub reads-fault : {text rest line : List ℕ} (after : List ℕ) {number : ℕ} {items : List Item} {labels : List ℕ → Option ℕ} {words : ℕ}
    {fault : TextFault} (read : HasRead text rest number items labels words) → lines rest ≡ line ∷ lines after
    → IsRefusal (number + 1) (refusal_after read.statements (statement_in line)) fault → ReadsNotes text fault
reads-fault {text} after read cut refusal = elim refusal [
  | inl memory ↦ subst (ReadsNotes text) (sym memory) tt
  | inr why ↦ subst (ReadsNotes text) (sym why.2) (read-fault after read cut why.1)
]

-- instructions put before a code
abbrev pub with_front : List Insn → Result (List Insn) TextFault → Result (List Insn) TextFault
with_front front (Ok code) = Ok (front ++ code)
with_front front (Err fault) = Err fault

with-front-more : (front : List Insn) (line : ℕ) (insn : Insn) (rest : Result (List Insn) TextFault)
    → with_front (front ++ insn ∷ []) rest ≡ with_front front (onto_code line (Ok insn) rest)
with-front-more front line insn (Ok code) = ap (λ (xs : List Insn). let r : Result (List Insn) TextFault = Ok xs in r)
    (append_assoc front (insn ∷ []) code)
with-front-more front line insn (Err fault) = refl

-- the items from an index on
items-at : (items : List Item) (i : ℕ) (d : Item) → i < length items
    → map item_view (drop i items) ≡ item_view (get_or items i d) ∷ map item_view (drop (i + 1) items)
items-at items i d inside =
    let cut : drop i items ≡ get_or items i d ∷ drop (i + 1) items = rw add-one (drop-cons items i d inside) in
    ap (map item_view) cut

pub code-more : (statements : List Statement) (items : List Item) (i : ℕ) {it : Item} (old : List Insn) {insn : Insn}
    → i < length items → it ≡ get_or items i it → resolve statements (item_view it) ≡ Ok insn
    → with_front (old ++ insn ∷ []) (code_from statements (map item_view (drop (i + 1) items)))
    ≡ with_front old (code_from statements (map item_view (drop i items)))
code-more statements items i {it} old inside is means =
    let rest = code_from statements (map item_view (drop (i + 1) items)) in
    let at : map item_view (drop i items) ≡ item_view it ∷ map item_view (drop (i + 1) items) =
    items-at items i it inside ∙ ap (λ (x : Item). item_view x ∷ map item_view (drop (i + 1) items)) (sym is) in
    with-front-more old it.line _ rest
    ∙ ap (λ (r : Result Insn TextFaultKind). with_front old (onto_code it.line r rest)) (sym means)
    ∙ ap (λ (xs : List text.Item). with_front old (code_from statements xs)) (sym at)

pub code-fault : (statements : List Statement) (items : List Item) (i : ℕ) {it : Item} (old : List Insn) {why : TextFaultKind} → i < length items
    → it ≡ get_or items i it → resolve statements (item_view it) ≡ Err why
    → with_front old (code_from statements (map item_view (drop i items))) ≡ Err (InLine it.line why)
code-fault statements items i {it} old inside is fails =
    let rest = code_from statements (map item_view (drop (i + 1) items)) in
    let at : map item_view (drop i items) ≡ item_view it ∷ map item_view (drop (i + 1) items) =
    items-at items i it inside ∙ ap (λ (x : Item). item_view x ∷ map item_view (drop (i + 1) items)) (sym is) in
    ap (λ (xs : List text.Item). with_front old (code_from statements xs)) at
    ∙ ap (λ (r : Result Insn TextFaultKind). with_front old (onto_code it.line r rest)) fails
