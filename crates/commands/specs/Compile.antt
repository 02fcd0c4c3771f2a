-- What `compile` writes, and why it is refused.
use Rattle.std.specs.Prelude.{ℕ, List, Option, Some, Result}
use Rattle.std.specs.Io.KnownBytes.{Keeps}
use Rattle.counted_io.specs.ReaderWriter.{Writer}
use Rattle.counted_io.specs.Writing.{WritesText}
use Rattle.counted_io.specs.declared.writing.WriteFault.{WriteFault}
use Rattle.commands.specs.declared.compile.Compile.{Compile}
use Rattle.filters.specs.Filter.{IsFilterFailure, IsProgramOf}
use Rattle.filters.specs.declared.failure.FilterFailure.{FilterFailure}

-- The filter's text, whose bytes agree with what is known of them, compiles to a program. The program's words were written, completely or until
-- the output failed.
pub record Writes (compile : Compile) (known : List ℕ → Option (List ℕ)) (result : Result (Unit {0}) WriteFault)
    (out out' : Writer) : Type 0 where
  pub text : List ℕ
  pub is_text : Keeps (known compile.filter.now) (Some text)
  pub program : List ℕ
  pub is_program : IsProgramOf text compile.filter_options program
  pub written : WritesText program result out out'

-- The filter's text, whose bytes agree with what is known of them, has no program, and this is why.
pub record IsRefused (compile : Compile) (known : List ℕ → Option (List ℕ)) (failure : FilterFailure) : Type 0 where
  pub text : List ℕ
  pub is_text : Keeps (known compile.filter.now) (Some text)
  pub refused : IsFilterFailure text compile.filter_options failure
