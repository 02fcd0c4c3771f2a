use Rattle.std.proofs.Common.{◌≡◌, ◌≢◌, refl, rules, Err}
use Rattle.commands.specs.declared.request.Request.{Request}
use Rattle.command_line.specs.Request.{IsRequest}
use Rattle.command_line.specs.Values.{rows_in}
use Rattle.command_line.specs.declared.fault.ArgumentsFault.TheVariants.{Memory}
use Rattle.command_line.proofs.arguments.request.Goals as goal

pub returns-in_ok-request-in-Select : goal.returns-in_ok-request-in-Select
returns-in_ok-request-in-Select c = rw c.in-Select.is (c.in_ok-request-in-Select.field-0, refl, c.in_ok-request-in-Select.ensures)

pub returns-in_ok-request-in-Compile : goal.returns-in_ok-request-in-Compile
returns-in_ok-request-in-Compile c = rw c.in-Compile.is (c.in_ok-request-in-Compile.field-0, refl, c.in_ok-request-in-Compile.ensures)

pub returns-in_ok-request-in-Run : goal.returns-in_ok-request-in-Run
returns-in_ok-request-in-Run c = rw c.in-Run.is (c.in_ok-request-in-Run.field-0, refl, c.in_ok-request-in-Run.ensures)

pub returns-in_ok-request-in-Trace : goal.returns-in_ok-request-in-Trace
returns-in_ok-request-in-Trace c = rw c.in-Trace.is (c.in_ok-request-in-Trace.field-0, refl, c.in_ok-request-in-Trace.ensures)

pub returns-in_ok-request-in-Geocode : goal.returns-in_ok-request-in-Geocode
returns-in_ok-request-in-Geocode c = rw c.in-Geocode.is (c.in_ok-request-in-Geocode.field-0, refl, c.in_ok-request-in-Geocode.ensures)

pub returns-in_ok-request-in-GeocodeBatch : goal.returns-in_ok-request-in-GeocodeBatch
returns-in_ok-request-in-GeocodeBatch c = rw c.in-GeocodeBatch.is (c.in_ok-request-in-GeocodeBatch.field-0, refl, c.in_ok-request-in-GeocodeBatch.ensures)

pub returns-in_ok-request-in-Verify : goal.returns-in_ok-request-in-Verify
returns-in_ok-request-in-Verify c = rw c.in-Verify.is (c.in_ok-request-in-Verify.field-0, refl, c.in_ok-request-in-Verify.ensures)

pub returns-in_ok-request-in-Explain : goal.returns-in_ok-request-in-Explain
returns-in_ok-request-in-Explain c = rw c.in-Explain.is (c.in_ok-request-in-Explain.field-0, refl, c.in_ok-request-in-Explain.ensures)

pub returns-in_ok-request-in-Assemble : goal.returns-in_ok-request-in-Assemble
returns-in_ok-request-in-Assemble c = rw c.in-Assemble.is (c.in_ok-request-in-Assemble.field-0, refl, c.in_ok-request-in-Assemble.ensures)

pub returns-in_ok-request-in-Disassemble : goal.returns-in_ok-request-in-Disassemble
returns-in_ok-request-in-Disassemble c = rw c.in-Disassemble.is (c.in_ok-request-in-Disassemble.field-0, refl, c.in_ok-request-in-Disassemble.ensures)

pub returns-in_err-request-in-Geocode : goal.returns-in_err-request-in-Geocode
returns-in_err-request-in-Geocode c =
    let fault = c.in_err-request-in-Geocode.field-0.0 in
    let none : fault ≢ Memory → (request : Request) → IsRequest c.args.subcommand (rows_in c.args.matches.now) request → ⊥ =
    rw c.in-Geocode.is (λ other request is. c.in_err-request-in-Geocode.ensures other is.0 is.2) in
    let same : c.from_residual-in_err-request-in-Geocode.result ≡ Err fault = search rules in
    rw same none
