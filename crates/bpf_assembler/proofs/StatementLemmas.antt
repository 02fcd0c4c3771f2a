-- One more statement, and what the statements of a text determine.
use Rattle.std.proofs.Common.{◌≡◌, ◌≢◌, ◌⊎◌, ℕ, suc, ◌+◌, ◌≤◌, List, [], ◌∷◌, ◌++◌, length, map, Option, Some, None, Result, Ok, Err}
use Rattle.std.proofs.Common.{MatchResult, Bool, true, false, cond, if◌then◌else◌, inl, inr, refl, sym, ap, ◌∙◌, subst, add-zero, arith}
use Rattle.std.proofs.lemmas.Option.{none-some}
use Rattle.std.proofs.lemmas.List.{append_assoc, append-nil, map-append, length-map}
use Rattle.std.specs.Prelude.{IsErrAnd}
use Rattle.std.specs.Str.{bytes_eq}
use Rattle.std.specs.Str.Lines.{lines}
use Rattle.bpf_insn.specs.Form.{spelling}
use Rattle.bpf_insn.specs.Code.{word_count}
use Rattle.bpf_insn.specs.declared.instruction.Insn.{Insn}
use Rattle.bpf_assembler.specs.declared.fault.TextFaultKind.{TextFaultKind}
use Rattle.bpf_assembler.specs.declared.fault.TextFault.{TextFault}
use Rattle.bpf_assembler.specs.declared.fault.TextFault.TheVariants.{InLine, Memory}
use Rattle.bpf_assembler.specs.Statement.{Statement, Blank, Label, Instruction, statement_in}
use Rattle.bpf_assembler.specs.Text.{words_of, label_from, Item, item, items_from, fault_after, refusal_after, FaultlessAfter, code_of}
use Rattle.bpf_assembler.specs.Text.{HasStatements, Means, HasFirstFaultAt, IsFirstFault}

pub words-snoc : (ss : List Statement) (s : Statement) → words_of (ss ++ s ∷ []) ≡ words_of ss + words_of (s ∷ [])
words-snoc [] s = omega arith
words-snoc (Blank ∷ ss) s = words-snoc ss s
words-snoc (Label name ∷ ss) s = words-snoc ss s
words-snoc (Instruction insn target ∷ ss) s = omega (arith, words-snoc ss s)

pub faultless-snoc : (before ss : List Statement) (s : Statement) → FaultlessAfter before ss → fault_after (before ++ ss) s ≡ None
    → FaultlessAfter before (ss ++ s ∷ [])
faultless-snoc before [] s all none = (subst (λ (b : List Statement). fault_after b s ≡ None) (append-nil before) none, tt)
faultless-snoc before (t ∷ ss) s all none = (
  all.0,
  faultless-snoc (before ++ t ∷ []) ss s all.1
      (subst (λ (b : List Statement). fault_after b s ≡ None) (sym (append_assoc before (t ∷ []) ss)) none),
)

pub items-snoc : (line place : ℕ) (ss : List Statement) (s : Statement)
    → items_from line place (ss ++ s ∷ []) ≡ items_from line place ss ++ items_from (line + length ss) (place + words_of ss) (s ∷ [])
items-snoc line place [] s = rw (add-zero, add-zero) refl
items-snoc line place (Blank ∷ ss) s =
    items-snoc (suc line) place ss s ∙ ap (λ (n : ℕ). items_from (suc line) place ss ++ items_from n (place + words_of ss) (s ∷ []))
    (omega arith)
items-snoc line place (Label name ∷ ss) s =
    items-snoc (suc line) place ss s ∙ ap (λ (n : ℕ). items_from (suc line) place ss ++ items_from n (place + words_of ss) (s ∷ []))
    (omega arith)
items-snoc line place (Instruction insn target ∷ ss) s =
    let rest = items-snoc (suc line) (place + length (spelling insn)) ss s in
    let lines : suc line + length ss ≡ line + suc (length ss) = omega arith in
    let places : (place + length (spelling insn)) + words_of ss ≡ place + (length (spelling insn) + words_of ss) = omega arith in
    ap (λ (xs : List Item). item line place insn target ∷ xs)
    (rest ∙ ap (λ (n : ℕ). items_from (suc line) (place + length (spelling insn)) ss ++ items_from n
    ((place + length (spelling insn)) + words_of ss) (s ∷ [])) lines
    ∙ ap (λ (n : ℕ). items_from (suc line) (place + length (spelling insn)) ss ++ items_from (line + suc (length ss)) n (s ∷ []))
    places)

-- the label of a statement, at a place
abbrev pub label_in : ℕ → List ℕ → Statement → Option ℕ
label_in place name (Label other) = if bytes_eq other name then Some place else None
label_in place name statement = None

abbrev pub first_of : Option ℕ → Option ℕ → Option ℕ
first_of (Some place) later = Some place
first_of None later = later

first-of-test : (test : Bool) (place : ℕ) (earlier later : Option ℕ)
    → cond test (Some place) (first_of earlier later) ≡ first_of (cond test (Some place) earlier) later
first-of-test true place earlier later = refl
first-of-test false place earlier later = refl

pub label-snoc : (place : ℕ) (name : List ℕ) (ss : List Statement) (s : Statement)
    → label_from place name (ss ++ s ∷ []) ≡ first_of (label_from place name ss) (label_in (place + words_of ss) name s)
label-snoc place name [] Blank = refl
label-snoc place name [] (Label other) = rw add-zero refl
label-snoc place name [] (Instruction insn target) = refl
label-snoc place name (Blank ∷ ss) s = label-snoc place name ss s
label-snoc place name (Label other ∷ ss) s =
    ap (λ (later : Option ℕ). cond (bytes_eq other name) (Some place) later) (label-snoc place name ss s)
    ∙ first-of-test (bytes_eq other name) place (label_from place name ss) (label_in (place + words_of ss) name s)
label-snoc place name (Instruction insn target ∷ ss) s =
    let places : (place + length (spelling insn)) + words_of ss ≡ place + (length (spelling insn) + words_of ss) = omega arith in
    label-snoc (place + length (spelling insn)) name ss s ∙ ap
    (λ (n : ℕ). first_of (label_from (place + length (spelling insn)) name ss) (label_in n name s)) places

abbrev meanings : List Statement → List (Result Statement TextFaultKind)
meanings ss = map Ok ss

pub length-meant : (front : List (List ℕ)) (statements : List Statement) → map statement_in front ≡ meanings statements
    → length front ≡ length statements
length-meant front statements meant = simp length-map at (ap length meant)

-- statements are determined by their meanings
pub same-statements : (a b : List Statement) → meanings a ≡ meanings b → a ≡ b
same-statements [] [] e = refl
same-statements [] (t ∷ b) e = cc
same-statements (s ∷ a) [] e = cc
same-statements (s ∷ a) (t ∷ b) e =
    let first : s ≡ t = cc in
    let rest : meanings a ≡ meanings b = cc in
    let same = same-statements a b rest in
    cc

-- the first refusal of lines, each following statements, with its line number, given the number of the first line
abbrev unless : Option TextFaultKind → ℕ → Option TextFault → Option TextFault
unless (Some flaw) line later = Some (InLine line flaw)
unless None line later = later

abbrev first_refusal : ℕ → List Statement → List (Result Statement TextFaultKind) → Option TextFault
first_refusal line before [] = None
first_refusal line before (Err flaw ∷ rest) = Some (InLine line flaw)
first_refusal line before (Ok statement ∷ rest) = unless (fault_after before statement) line
    (first_refusal (suc line) (before ++ statement ∷ []) rest)

refused-first : (line : ℕ) (done : List Statement) (meaning : Result Statement TextFaultKind) (rest : List (Result Statement TextFaultKind))
    (flaw : TextFaultKind) → refusal_after done meaning ≡ Some flaw → first_refusal line done (meaning ∷ rest) ≡ Some (InLine line flaw)
refused-first line done (Ok statement) rest flaw refused = ap
    (λ (o : Option TextFaultKind). unless o line (first_refusal (suc line) (done ++ statement ∷ []) rest)) refused
refused-first line done (Err other) rest flaw refused = let same : other ≡ flaw = cc in cc

refused-after : (line : ℕ) (done before : List Statement) (meaning : Result Statement TextFaultKind) (rest : List (Result Statement TextFaultKind))
    (flaw : TextFaultKind) → FaultlessAfter done before → refusal_after (done ++ before) meaning ≡ Some flaw
    → first_refusal line done (meanings before ++ meaning ∷ rest) ≡ Some (InLine (line + length before) flaw)
refused-after line done [] meaning rest flaw all refused =
    rw add-zero (refused-first line done meaning rest flaw
    (subst (λ (b : List Statement). refusal_after b meaning ≡ Some flaw) (append-nil done) refused))
refused-after line done (s ∷ before) meaning rest flaw all refused =
    let whole : done ++ s ∷ before ≡ (done ++ s ∷ []) ++ before = sym (append_assoc done (s ∷ []) before) in
    let later = refused-after (suc line) (done ++ s ∷ []) before meaning rest flaw all.1
    (subst (λ (b : List Statement). refusal_after b meaning ≡ Some flaw) whole refused) in
    let lines : suc line + length before ≡ line + suc (length before) = omega arith in
    ap (λ (o : Option TextFaultKind). unless o line (first_refusal (suc line) (done ++ s ∷ []) (meanings before ++ meaning ∷ rest))) all.0
    ∙ later ∙ ap (λ (n : ℕ). Some (InLine n flaw)) lines

refused-none : (line : ℕ) (done all : List Statement) → FaultlessAfter done all → first_refusal line done (meanings all) ≡ None
refused-none line done [] faultless = refl
refused-none line done (s ∷ rest) faultless =
    ap (λ (o : Option TextFaultKind). unless o line (first_refusal (suc line) (done ++ s ∷ []) (meanings rest))) faultless.0
    ∙ refused-none (suc line) (done ++ s ∷ []) rest faultless.1

abbrev first_refusal_of : List ℕ → Option TextFault
first_refusal_of text = first_refusal 1 [] (map statement_in (lines text))

refused-line : (text : List ℕ) (line : ℕ) (flaw : TextFaultKind) → HasFirstFaultAt text line flaw
    → first_refusal_of text ≡ Some (InLine line flaw)
refused-line text line flaw f =
    let rest = map statement_in f.back in
    let front : map statement_in (lines text) ≡ meanings f.before ++ statement_in f.faulty ∷ rest =
    ap (map statement_in) f.split ∙ map-append statement_in f.front (f.faulty ∷ f.back)
    ∙ ap (λ (ms : List (Result Statement TextFaultKind)). ms ++ statement_in f.faulty ∷ rest) f.meant in
    let numbered : 1 + length f.before ≡ line = omega (arith, f.numbered, length-meant f.front f.before f.meant) in
    ap (first_refusal 1 []) front ∙ refused-after 1 [] f.before (statement_in f.faulty) rest flaw f.faultless f.refused
    ∙ ap (λ (n : ℕ). Some (InLine n flaw)) numbered

refused-nowhere : (text : List ℕ) (all : List Statement) → HasStatements text all → first_refusal_of text ≡ None
refused-nowhere text all has = ap (first_refusal 1 []) has.meant ∙ refused-none 1 [] all has.faultless

-- a text with statements has no fault in a line
no-fault-in-line : (text : List ℕ) (all : List Statement) (line : ℕ) (flaw : TextFaultKind) → HasStatements text all
    → HasFirstFaultAt text line flaw → ⊥
no-fault-in-line text all line flaw has fault = none-some (InLine line flaw)
    (sym (refused-nowhere text all has) ∙ refused-line text line flaw fault)

-- its statements yield one code, or one fault
same-code : {text : List ℕ} {x y : List Statement} {a b : Result (List Insn) TextFault} → HasStatements text x → HasStatements text y
    → code_of x ≡ a → code_of y ≡ b → a ≡ b
same-code {x} {y} has also gives yields = sym gives ∙ ap code_of (same-statements x y (sym has.meant ∙ also.meant)) ∙ yields

-- a text means at most one code
pub one-code : (text : List ℕ) (a b : List Insn) → Means text a → Means text b → a ≡ b
one-code text a b x y = let same = same-code x.has_statements y.has_statements x.meant y.meant in cc

-- a text that means a code has no fault
pub no-fault : (text : List ℕ) (code : List Insn) (line : ℕ) (flaw : TextFaultKind) → Means text code → IsFirstFault text (InLine line flaw) → ⊥
no-fault text code line flaw m (inl in_line) = no-fault-in-line text m.statements line flaw m.has_statements in_line
no-fault text code line flaw m (inr (inl none)) =
    let nothing = same-code m.has_statements none.1 m.meant none.2 in
    let empty : code ≡ [] = cc in
    let some : 1 ≤ length code = m.some in
    omega (arith, ap length empty)
no-fault text code line flaw m (inr (inr target)) =
    let bad = same-code m.has_statements target.1 m.meant target.2 in cc

-- a text has at most one first fault
same-fault : (text : List ℕ) (p q : ℕ) (x y : TextFaultKind) → IsFirstFault text (InLine p x) → IsFirstFault text (InLine q y)
    → InLine p x ≡ InLine q y
same-fault text p q x y (inl a) (inl b) = let same = sym (refused-line text p x a) ∙ refused-line text q y b in cc
same-fault text p q x y (inl a) (inr (inl b)) = absurd (no-fault-in-line text b.0 p x b.1 a)
same-fault text p q x y (inl a) (inr (inr b)) = absurd (no-fault-in-line text b.0 p x b.1 a)
same-fault text p q x y (inr (inl a)) (inl b) = absurd (no-fault-in-line text a.0 q y a.1 b)
same-fault text p q x y (inr (inr a)) (inl b) = absurd (no-fault-in-line text a.0 q y a.1 b)
same-fault text p q x y (inr (inl a)) (inr (inl b)) = ap (λ (n : ℕ). InLine n x) (a.3 ∙ sym b.3) ∙ ap (InLine q) (a.4 ∙ sym b.4)
same-fault text p q x y (inr (inl a)) (inr (inr b)) = let same = same-code a.1 b.1 a.2 b.2 in cc
same-fault text p q x y (inr (inr a)) (inr (inl b)) = let same = same-code a.1 b.1 a.2 b.2 in cc
same-fault text p q x y (inr (inr a)) (inr (inr b)) = let same = same-code a.1 b.1 a.2 b.2 in cc

pub one-fault : (text : List ℕ) (a b : TextFault) → IsFirstFault text a → IsFirstFault text b → a ≢ Memory → b ≢ Memory → a ≡ b
one-fault text (InLine p x) (InLine q y) h k m n = same-fault text p q x y h k
one-fault text Memory b h k m n = absurd (m refl)
one-fault text a Memory h k m n = absurd (n refl)

some-instructions : (code : List Insn) → 1 ≤ word_count code → 1 ≤ length code
some-instructions [] some = some
some-instructions (insn ∷ code) some = omega arith

-- statements whose code has words are the text's meaning
pub means-by : (text : List ℕ) (statements : List Statement) (built code : List Insn) → HasStatements text statements
    → code_of statements ≡ Ok built → code ≡ built → 1 ≤ word_count code → Means text code
means-by text statements built code has meant same some = record {
  statements = statements;
  has_statements = has;
  meant = meant ∙ ap (λ (xs : List Insn). let r : Result (List Insn) TextFault = Ok xs in r) (sym same);
  some = some-instructions code some;
}

-- the result for a text that means a code
pub only-code : (text : List ℕ) (result : Result (List Insn) TextFault) → MatchResult result (Means text) (IsFirstFault text)
    → (code : List Insn) → Means text code → MatchResult result (λ given. given ≡ code) (λ fault. fault ≡ Memory)
only-code text (Ok given) means code other = one-code text given code means other
only-code text (Err (InLine line flaw)) first code means = absurd (no-fault text code line flaw means first)
only-code text (Err Memory) first code means = refl

-- the result for a text that has a first fault
pub names-the-fault : (text : List ℕ) (result : Result (List Insn) TextFault) → MatchResult result (Means text) (IsFirstFault text)
    → (fault : TextFault) → IsFirstFault text fault → fault ≢ Memory → IsErrAnd result (λ given. (given ≡ fault) ⊎ (given ≡ Memory))
names-the-fault text (Ok code) means (InLine line flaw) first other = absurd (no-fault text code line flaw means first)
names-the-fault text (Err (InLine p x)) is (InLine q y) first other = inl (same-fault text p q x y is first)
names-the-fault text (Err Memory) is fault first other = inr refl
names-the-fault text result is Memory first other = absurd (other refl)
