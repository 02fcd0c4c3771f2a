-- Reading a program to its end: the bytes that are stored, and why it is too long.
use Rattle.std.proofs.Common.{◌≡◌, ◌≢◌, ◌⊎◌, ℕ, ◌+◌, ◌*◌, ◌%◌, ◌<◌, ◌≤◌, List, [], ◌++◌, length, take, ◌-◌, Option, Some, None, Result, Ok}
use Rattle.std.proofs.Common.{Err, IfOk, is_ok, min, if◌then◌else◌, inl, inr, refl, ap, subst, sym, ◌∙◌, arith}
use Rattle.std.specs.Io.KnownBytes.{Consumes, IsAtEnd, Keeps}
use Rattle.std.proofs.Math.Seq.{take-append-add}
use Rattle.std.proofs.lemmas.List.{append-nil, length-append, length-take, length-take-le, take-append-le, take_all, take_min}
use Rattle.std.proofs.lemmas.Bool.{cases_lt}
use Rattle.bpf_insn.specs.declared.code.TheConstants.{MAX_WORDS}
use Rattle.bpf_insn.specs.declared.fault.CodeFault.{CodeFault}
use Rattle.bpf_insn.specs.declared.fault.CodeFault.TheVariants as code
use Rattle.named_files.specs.Files.{IsLong, IsPrefix, IsShort, IsTooLong}
use Rattle.named_files.proofs.FileLemmas.{preserves_both}

-- the stored prefix of what was read, extended by the bytes that are stored from the next read
stored_more : (limit : ℕ) (before read stored : List ℕ) → stored ≡ take limit before
    → stored ++ take (limit - length stored) read ≡ take limit (before ++ read)
stored_more limit before read stored is = by_length (cases_lt limit (length before))
  where
    by_length : (limit < length before) ⊎ (length before ≤ limit) → stored ++ take (limit - length stored) read ≡ take limit (before ++ read)
    by_length (inl many) =
        let full : length stored ≡ limit = ap length is ∙ length-take-le limit before (omega (arith, many)) in
        let none : limit - length stored ≡ 0 = omega (arith, full) in
        ap (λ (n : ℕ). stored ++ take n read) none ∙ append-nil stored ∙ is ∙ sym (take-append-le limit before read (omega (arith, many)))
    by_length (inr few) =
        let all : stored ≡ before = is ∙ take_all limit before few in
        let sum : length before + (limit - length before) ≡ limit = omega (arith, few) in
        ap (λ (bytes : List ℕ). bytes ++ take (limit - length bytes) read) all
        ∙ sym (take-append-add before read (limit - length before)) ∙ ap (λ (n : ℕ). take n (before ++ read)) sum

-- the same, for the append that may fail
module _ (limit count : ℕ) (before read stored kept' : List ℕ) where
  pub stored_read : {V E : Type 0} (result : Result V E) → count ≡ min (limit - length stored) (length read)
      → kept' ≡ (if is_ok result then stored ++ take count read else stored) → stored ≡ take limit before
      → IfOk result (λ _. kept' ≡ take limit (before ++ read))
  stored_read (Ok value) is_count added is =
      added ∙ ap (λ (n : ℕ). stored ++ take n read) is_count ∙ ap (λ (bytes : List ℕ). stored ++ bytes) (take_min (limit - length stored) read)
      ∙ stored_more limit before read stored is
  stored_read (Err error) is_count added is = tt

-- the stored bytes are a prefix of what the reader has, whether it was read to its end or the limit was reached
module _ (limit : ℕ) (taken stored : List ℕ) (is : stored ≡ take limit taken) where
  pub prefix_whole : (old : Option (List ℕ)) → Keeps old (Some taken) → IsPrefix limit old stored
  prefix_whole old whole = record { whole = taken; is_whole = whole; is_prefix = is }

  pub prefix_full : (old now : Option (List ℕ)) → Consumes old now taken → length stored ≡ limit → IsPrefix limit old stored
  prefix_full None now read full = record { whole = taken; is_whole = tt; is_prefix = is }
  prefix_full (Some xs) None read full = absurd read
  prefix_full (Some xs) (Some ys) read full =
      let many : limit ≤ length taken = omega (arith, full, ap length is, length-take limit taken) in
      record { whole = xs; is_whole = refl; is_prefix = is ∙ sym (ap (take limit) read ∙ take-append-le limit taken ys many) }

-- a prefix that is shorter than its limit is the whole file; with a full one, the file has at least so many bytes
module _ {end : ℕ} {known : Option (List ℕ)} {prefix : List ℕ} (read : IsPrefix end known prefix) where
  prefix_length : length prefix ≡ min end (length read.whole)
  prefix_length = ap length read.is_prefix ∙ length-take end read.whole

  pub short_file : length prefix < end → IsShort end known prefix
  short_file short =
      let whole : prefix ≡ read.whole = read.is_prefix ∙ take_all end read.whole (omega (arith, short, prefix_length)) in
      record { is_file = subst (λ bytes. Keeps known (Some bytes)) (sym whole) read.is_whole; short = short }

  pub long_file : end ≤ length prefix → IsLong end known
  long_file many = record { bytes = read.whole; is_file = read.is_whole; long = omega (arith, many, prefix_length) }

-- if no more bytes than the limit are stored, they are the whole program; if more are stored, the program is longer than the limit
module _ (program stored : List ℕ) (is : stored ≡ take (8 * (MAX_WORDS + 1)) program) where
  stored_length : length stored ≡ min (8 * (MAX_WORDS + 1)) (length program)
  stored_length = ap length is ∙ length-take (8 * (MAX_WORDS + 1)) program

  pub all_stored : length stored ≤ 8 * MAX_WORDS → stored ≡ program
  all_stored few = is ∙ take_all (8 * (MAX_WORDS + 1)) program (omega (arith, few, stored_length))

  more_stored : 8 * MAX_WORDS < length stored → 8 * MAX_WORDS < length program
  more_stored more = omega (arith, more, stored_length)

  -- the program's fault, by the remainder of its last word
  pub too_long : 8 * MAX_WORDS < length stored → 0 ≡ length program % 8 → IsTooLong (Some program) code.TooLong
  too_long more none = record {
    program = program;
    is_program = refl;
    long = more_stored more;
    first = (sym none, more_stored more);
    has_number = λ e. cc;
  }

  pub not_whole : (remainder : ℕ) → 8 * MAX_WORDS < length stored → remainder ≡ length program % 8 → remainder ≢ 0
      → IsTooLong (Some program) code.NotWhole
  not_whole remainder more of some = record {
    program = program;
    is_program = refl;
    long = more_stored more;
    first = λ whole. some (of ∙ whole);
    has_number = λ e. cc;
  }

-- the same if less is known of it
pub too_long_as : (known left : Option (List ℕ)) (fault : CodeFault) → Keeps known left → IsTooLong left fault → IsTooLong known fault
too_long_as known left fault stored is = record {
  program = is.program;
  is_program = preserves_both known left (Some is.program) stored is.is_program;
  long = is.long;
  first = is.first;
  has_number = is.has_number;
}

-- at the end of its input, a reader has returned all that it had
module _ (taken buffer : List ℕ) (count : ℕ) where
  pub read_whole : (old now new : Option (List ℕ)) → Consumes old now taken
      → Consumes now new (take count buffer) × (count ≡ 0 → 0 < length buffer → IsAtEnd new) → count ≡ 0 → 0 < length buffer
      → Keeps old (Some taken)
  read_whole None now new first last none some = tt
  read_whole (Some xs) None new first last none some = absurd first
  read_whole (Some xs) (Some ys) None first last none some = absurd last.0
  read_whole (Some xs) (Some ys) (Some zs) first last none some =
      let left : ys ≡ [] = last.0 ∙ ap (λ (n : ℕ). take n buffer ++ zs) none ∙ last.1 none some in
      sym (first ∙ ap (λ (bytes : List ℕ). taken ++ bytes) left ∙ append-nil taken)

-- the remainder after reading `count` more bytes
pub rest_more : (taken buffer : List ℕ) (rest count : ℕ) → rest ≡ length taken % 8 → count ≤ length buffer
    → (rest + count) % 8 ≡ length (taken ++ take count buffer) % 8
rest_more taken buffer rest count is within =
    let more : length (taken ++ take count buffer) ≡ length taken + count =
    length-append taken (take count buffer) ∙ ap (λ (n : ℕ). length taken + n) (length-take-le count buffer within) in
    omega (arith, is, more)
