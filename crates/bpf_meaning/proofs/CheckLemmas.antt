-- Checks that are sound for others.
use Rattle.std.proofs.Common.{Bool, true, false, IsTrue, if◌then◌else◌, Result, Ok, Err}
use Rattle.std.proofs.lemmas.Bool.{false≢true}
use Rattle.bpf_meaning.specs.Checks.{◌>>=◌, Sound}
use Rattle.bpf_meaning.specs.declared.cause.Cause.{Cause}

-- checks in sequence
pub then_sound : {A B C D : Type 0} (First : A → B → Type 0) (Second : C → D → Type 0) (checks : Result A Cause) (others : Result B Cause)
    (f : A → Result C Cause) (g : B → Result D Cause) → Sound First checks others → ((x : A) (y : B) → First x y → Sound Second (f x) (g y))
    → Sound Second (checks >>= f) (others >>= g)
then_sound First Second (Err cause) others f g first second = tt
then_sound First Second (Ok x) (Ok y) f g first second = second x y first
then_sound First Second (Ok x) (Err cause) f g first second = absurd first

-- a test that holds changes nothing
pub passes_if : {A B : Type 0} (Holds : A → B → Type 0) (checks : Result A Cause) (others : Result B Cause) (test : Bool) (cause : Cause)
    → IsTrue test → Sound Holds checks others → Sound Holds checks (if test then others else Err cause)
passes_if Holds checks others true cause holds sound = sound
passes_if Holds checks others false cause holds sound = absurd (false≢true holds)

-- weaker facts about the results
pub weaker : {A B : Type 0} (First Second : A → B → Type 0) (checks : Result A Cause) (others : Result B Cause)
    → ((x : A) (y : B) → First x y → Second x y) → Sound First checks others → Sound Second checks others
weaker First Second (Err cause) others all sound = tt
weaker First Second (Ok x) (Err cause) all sound = absurd sound
weaker First Second (Ok x) (Ok y) all sound = all x y sound
