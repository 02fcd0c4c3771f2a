-- From words to bytes, and back.
use Rattle.std.proofs.Common.{◌≡◌, ℕ, zero, suc, ◌+◌, ◌*◌, ◌/◌, ◌%◌, ◌<◌, ◌≤◌, ◌^◌, List, [], ◌∷◌, ◌++◌, length, take, drop, get_or, All}
use Rattle.std.proofs.Common.{refl, sym, ap, ◌∙◌, subst, arith}
use Rattle.std.specs.Int.{cast_signed, cast_unsigned, w16, w32, Width}
use mir.Val.{bits}
use Rattle.std.proofs.lemmas.Int.{of_z-to_z}
use Rattle.std.proofs.lemmas.List.{append_assoc, length-append, flat_map_more, take_more, take_all}
use Rattle.std.proofs.lemmas.List.Elements.{All-append}
use Rattle.bpf_insn.specs.Word.{word_of, words_of, first_words, IsWritten, AreWords, AppendsWords}
use Rattle.bpf_insn.specs.Form.{first_word, further_words, spelling}
use Rattle.bpf_insn.specs.Code.{code_words, IsCodeOf}
use Rattle.bpf_insn.proofs.WordLemmas.{length-first_words}
use Rattle.bpf_insn.specs.declared.word.Word.{Word}
use Rattle.bpf_insn.specs.declared.instruction.Insn.{Insn}

-- the first word of bytes depends only on their first eight bytes
word_of-front : (xs ys : List ℕ) → 8 ≤ length xs → word_of (xs ++ ys) ≡ word_of xs
word_of-front (a ∷ b ∷ c ∷ d ∷ e ∷ f ∷ g ∷ h ∷ rest) ys long = refl
word_of-front xs ys long = absurd (omega arith)

drop-front : (xs ys : List ℕ) → 8 ≤ length xs → drop 8 (xs ++ ys) ≡ drop 8 xs ++ ys
drop-front (a ∷ b ∷ c ∷ d ∷ e ∷ f ∷ g ∷ h ∷ rest) ys long = refl
drop-front xs ys long = absurd (omega arith)

length-drop_word : (xs : List ℕ) → 8 ≤ length xs → length xs ≡ 8 + length (drop 8 xs)
length-drop_word (a ∷ b ∷ c ∷ d ∷ e ∷ f ∷ g ∷ h ∷ rest) long = omega arith
length-drop_word xs long = absurd (omega arith)

-- the words of bytes, with more bytes after them
words-joined : (n m : ℕ) (xs ys : List ℕ) → length xs ≡ n * 8 → first_words (n + m) (xs ++ ys) ≡ first_words n xs ++ first_words m ys
unfolding first_words
words-joined zero m [] ys e = ap (λ k. first_words k ys) (let p : 0 + m ≡ m = omega arith in p)
words-joined zero m (x ∷ xs) ys e = absurd (omega arith)
words-joined (suc n) m xs ys e =
    let long : 8 ≤ length xs = omega arith in
    let behind = length-drop_word xs long in
    ap (λ k. first_words k (xs ++ ys)) (let p : suc n + m ≡ suc (n + m) = omega arith in p)
    ∙ ap (λ (w : Word). w ∷ first_words (n + m) (drop 8 (xs ++ ys))) (word_of-front xs ys long)
    ∙ ap (λ (ws : List Word). word_of xs ∷ ws) (ap (first_words (n + m)) (drop-front xs ys long)
    ∙ words-joined n m (drop 8 xs) ys (omega arith))

pub no_words : (bytes : List ℕ) → bytes ≡ [] → AreWords [] bytes
unfolding first_words
no_words bytes none = record { long = ap length none; same = refl; small = λ k d h. let l = ap length none in absurd (omega arith) }

-- a single word
one_word : (word : Word) (eight : List ℕ) → IsWritten word eight → AreWords (word ∷ []) eight
unfolding first_words
one_word word eight written = record { long = written.long; same = ap (λ (w : Word). w ∷ []) written.is_word; small = written.small }

-- more words
pub words_more : (words more : List Word) (bytes others : List ℕ) → AreWords words bytes → AreWords more others
    → AreWords (words ++ more) (bytes ++ others)
words_more words more bytes others are also =
    let count : length (words ++ more) ≡ length words + length more = length-append words more in
    let size = length-append bytes others in
    let first = are.long in
    let second = also.long in record {
      long = omega arith;
      same =
          ap (λ k. first_words k (bytes ++ others)) count ∙ words-joined (length words) (length more) bytes others are.long
          ∙ ap (λ (ws : List Word). ws ++ first_words (length more) others) are.same ∙ ap (λ (ws : List Word). words ++ ws) also.same;
      small = All-append (λ byte. byte < 256) bytes others are.small also.small;
    }

-- a word is appended
pub appends_one : (word : Word) {eight new : List ℕ} (old : List ℕ) → IsWritten word eight → new ≡ old ++ eight
    → AppendsWords (word ∷ []) old new
appends_one word {eight} old written grown = (eight, one_word word eight written, grown)

-- words are appended, and then others
appends_both : (words others : List Word) (old middle new : List ℕ) → AppendsWords words old middle → AppendsWords others middle new
    → AppendsWords (words ++ others) old new
appends_both words others old middle new (more, are, grown) (rest, also, again) = (
  more ++ rest,
  words_more words others more rest are also,
  again ∙ ap (λ (bytes : List ℕ). bytes ++ rest) grown ∙ append_assoc old more rest,
)

-- an instruction's words are appended
pub writes_one : (insn : Insn) (old new : List ℕ) → [] ≡ further_words insn → AppendsWords (first_word insn ∷ []) old new
    → AppendsWords (spelling insn) old new
writes_one insn old new alone appends =
    subst (λ (words : List Word). AppendsWords (first_word insn ∷ words) old new) alone appends

pub writes_two : (insn : Insn) (word : Word) (old middle new : List ℕ) → word ∷ [] ≡ further_words insn
    → AppendsWords (first_word insn ∷ []) old middle → AppendsWords (word ∷ []) middle new → AppendsWords (spelling insn) old new
writes_two insn word old middle new two appends also =
    subst (λ (words : List Word). AppendsWords (first_word insn ∷ words) old new) two
    (appends_both (first_word insn ∷ []) (word ∷ []) old middle new appends also)

-- the words of a code so far, with one more instruction
pub code_more : (code : List Insn) (i : ℕ) {insn : Insn} {old : List ℕ} (new : List ℕ) → i < length code → insn ≡ get_or code i insn
    → AreWords (code_words (take i code)) old → AppendsWords (spelling insn) old new → AreWords (code_words (take (i + 1) code)) new
code_more code i {insn} new within is are (more, also, grown) =
    let next : code_words (take (i + 1) code) ≡ code_words (take i code) ++ spelling insn =
    ap code_words (take_more code i insn within ∙ ap (λ (x : Insn). take i code ++ x ∷ []) (sym is))
    ∙ sym (flat_map_more spelling [] (take i code) insn) in
    subst (λ (ws : List Word). AreWords ws new) (sym next)
    (subst (AreWords (code_words (take i code) ++ spelling insn)) (sym grown)
    (words_more (code_words (take i code)) (spelling insn) _ more are also))

-- bytes that are the words of a code
pub are_code : (words : List Word) (bytes : List ℕ) → AreWords words bytes → (length bytes % 8 ≡ 0) × (words_of bytes ≡ words)
are_code words bytes are =
    let long = are.long in
    let count : length bytes / 8 ≡ length words = omega arith in
    (omega arith, ap (λ k. first_words k bytes) count ∙ are.same)

-- numbers of w bits are equal if they are equal as signed numbers
signed_same : (w : Width) (m n : ℕ) → m < 2 ^ bits w → n < 2 ^ bits w → cast_signed w m ≡ cast_signed w n → m ≡ n
signed_same w m n small little e = sym (of_z-to_z w m small) ∙ ap (cast_unsigned w) e ∙ of_z-to_z w n little

abbrev pub AreBytes : List ℕ → Type 0
AreBytes [] = Unit {0}
AreBytes (x ∷ xs) = (x < 256) × AreBytes xs

-- the bytes of a word, and those after them, have only one spelling
same_eight : (xs ys : List ℕ) → 8 ≤ length xs → 8 ≤ length ys → AreBytes xs → AreBytes ys → word_of xs ≡ word_of ys
    → drop 8 xs ≡ drop 8 ys → xs ≡ ys
same_eight (a ∷ b ∷ c ∷ d ∷ e ∷ f ∷ g ∷ h ∷ r) (a' ∷ b' ∷ c' ∷ d' ∷ e' ∷ f' ∷ g' ∷ h' ∷ r') long also
    (ha, (hb, (hc, (hd, (he, (hf, (hg, (hh, _)))))))) (ha', (hb', (hc', (hd', (he', (hf', (hg', (hh', _)))))))) w rest =
    let low : b % 16 ≡ b' % 16 = ap (λ (x : Word). x.destination) w in
    let high : b / 16 ≡ b' / 16 = ap (λ (x : Word). x.source) w in
    let opcode : a ≡ a' = ap (λ (x : Word). x.opcode) w in
    let registers : b ≡ b' = omega arith in
    let offset : c + 256 * (d + 256 * 0) ≡ c' + 256 * (d' + 256 * 0) =
    signed_same w16 (c + 256 * (d + 256 * 0)) (c' + 256 * (d' + 256 * 0)) (omega arith) (omega arith) (ap (λ (x : Word). x.offset) w) in
    let immediate : e + 256 * (f + 256 * (g + 256 * (h + 256 * 0))) ≡ e' + 256 * (f' + 256 * (g' + 256 * (h' + 256 * 0))) =
    signed_same w32 (e + 256 * (f + 256 * (g + 256 * (h + 256 * 0)))) (e' + 256 * (f' + 256 * (g' + 256 * (h' + 256 * 0))))
    (omega arith) (omega arith) (ap (λ (x : Word). x.immediate) w) in
    let c_same : c ≡ c' = omega arith in
    let d_same : d ≡ d' = omega arith in
    let e_same : e ≡ e' = omega arith in
    let f_same : f ≡ f' = omega arith in
    let g_same : g ≡ g' = omega arith in
    let h_same : h ≡ h' = omega arith in
    rw (opcode, registers, c_same, d_same, e_same, f_same, g_same, h_same, rest) refl
same_eight xs ys long also bx by w rest = absurd (omega arith)

-- so bytes with the same words are equal
pub same_bytes : (n : ℕ) (xs ys : List ℕ) → AreBytes xs → AreBytes ys → length xs ≡ n * 8 → length ys ≡ n * 8
    → first_words n xs ≡ first_words n ys → xs ≡ ys
unfolding first_words
same_bytes zero [] [] bx by ex ey w = refl
same_bytes zero [] (y ∷ ys) bx by ex ey w = absurd (omega arith)
same_bytes zero (x ∷ xs) ys bx by ex ey w = absurd (omega arith)
same_bytes (suc n) (a ∷ b ∷ c ∷ d ∷ e ∷ f ∷ g ∷ h ∷ r) (a' ∷ b' ∷ c' ∷ d' ∷ e' ∷ f' ∷ g' ∷ h' ∷ r')
    (ha, (hb, (hc, (hd, (he, (hf, (hg, (hh, br)))))))) (ha', (hb', (hc', (hd', (he', (hf', (hg', (hh', br')))))))) ex ey w =
    let both : word_of (a ∷ b ∷ c ∷ d ∷ e ∷ f ∷ g ∷ h ∷ r) ∷ first_words n r ≡ word_of
    (a' ∷ b' ∷ c' ∷ d' ∷ e' ∷ f' ∷ g' ∷ h' ∷ r') ∷ first_words n r' = w in
    let first : word_of (a ∷ b ∷ c ∷ d ∷ e ∷ f ∷ g ∷ h ∷ r) ≡ word_of (a' ∷ b' ∷ c' ∷ d' ∷ e' ∷ f' ∷ g' ∷ h' ∷ r') = cc in
    let others : first_words n r ≡ first_words n r' = cc in
    same_eight (a ∷ b ∷ c ∷ d ∷ e ∷ f ∷ g ∷ h ∷ r) (a' ∷ b' ∷ c' ∷ d' ∷ e' ∷ f' ∷ g' ∷ h' ∷ r') (omega arith) (omega arith)
    (ha, (hb, (hc, (hd, (he, (hf, (hg, (hh, br)))))))) (ha', (hb', (hc', (hd', (he', (hf', (hg', (hh', br')))))))) first
    (same_bytes n r r' br br' (omega arith) (omega arith) others)
same_bytes (suc n) xs ys bx by ex ey w = absurd (omega arith)

-- bytes, one by one
each_byte : (xs : List ℕ) → All (λ byte. byte < 256) xs → AreBytes xs
each_byte [] all = tt
each_byte (x ∷ xs) all = (all 0 0 (omega arith), each_byte xs (λ k d h. all (suc k) d (omega arith)))

-- a code has only one spelling in bytes
pub one_spelling : (a b : List ℕ) (code : List Insn) → All (λ byte. byte < 256) a → All (λ byte. byte < 256) b → IsCodeOf a code
    → IsCodeOf b code → a ≡ b
one_spelling a b code small little is also =
    let first = is.whole in
    let second = also.whole in
    let same : length a / 8 ≡ length b / 8 = sym (length-first_words (length a / 8) a) ∙ ap length (is.words ∙ sym also.words)
    ∙ length-first_words (length b / 8) b in
    same_bytes (length a / 8) a b (each_byte a small) (each_byte b little) (omega arith) (omega arith)
    (is.words ∙ sym also.words ∙ ap (λ k. first_words k b) (sym same))

-- so any bytes with this code are the bytes that were written
pub only_spelling : (code : List Insn) (written bytes : List ℕ) → AreWords (code_words code) written → All (λ byte. byte < 256) bytes
    → IsCodeOf bytes code → written ≡ bytes
only_spelling code written bytes are small is =
    let has = are_code (code_words code) written are in
    one_spelling written bytes code are.small small (record { whole = has.0; words = has.1; sized = is.sized }) is

-- the bytes that were written have the code
pub writes_code : (code items : List Insn) (count : ℕ) (bytes : List ℕ) → items ≡ code → length items ≤ count
    → AreWords (code_words (take count items)) bytes → AreWords (code_words code) bytes
writes_code code items count bytes same late are = subst (λ (c : List Insn). AreWords (code_words c) bytes)
    (take_all count items late ∙ same) are
