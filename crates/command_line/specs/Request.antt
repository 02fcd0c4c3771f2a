-- What the words of a command line request.
use Rattle.std.specs.Prelude.{◌≡◌, List, [], map, codes, Some, Ok, option_map, IsSomeAnd}
use Rattle.clap.specs.Walk.{Row, Text, first_of}
use Rattle.clap.specs.Simple.{subcommand_of, subcommand_rows_of}
use Rattle.clap.specs.Faults.{fault_of}
use Rattle.clap.specs.declared.parser.matches.ArgMatches.{ArgMatches}
use Rattle.geocode.specs.Query.{parts_of, query_of}
use Rattle.commands.specs.declared.request.Request.{Request}
use Rattle.commands.specs.declared.request.Request.TheVariants as asked
use Rattle.commands.specs.declared.select.Select.{Select}
use Rattle.commands.specs.declared.compile.Compile.{Compile}
use Rattle.commands.specs.declared.run.Run.{Run}
use Rattle.commands.specs.declared.trace.Trace.{Trace}
use Rattle.commands.specs.declared.geocoder.Geocode.{Geocode}
use Rattle.commands.specs.declared.geocode_batch.GeocodeBatch.{GeocodeBatch}
use Rattle.commands.specs.declared.verify.Verify.{Verify}
use Rattle.commands.specs.declared.explain.Explain.{Explain}
use Rattle.commands.specs.declared.assemble.Assemble.{Assemble}
use Rattle.commands.specs.declared.disassemble.Disassemble.{Disassemble}
use Rattle.layers.specs.LayerParts.{parts_of as layer_parts}
use Rattle.command_line.specs.Address.{IsAddress}
use Rattle.command_line.specs.Arguments.{named, program}
use Rattle.command_line.specs.Values.{code_of, codes_of, file_of, flag_of, language_of, layer_of, number_of, score_of}
use Rattle.command_line.specs.declared.arguments.subcommand.Subcommand.{Subcommand}
use Rattle.command_line.specs.declared.arguments.subcommand.Subcommand.TheVariants as command
use Rattle.command_line.specs.declared.serve.Serve.{Serve}

-- select --where TEXT [--filter-lang LANG] [--score COLUMN] --data DIR [--format FORMAT] [--columns NAMES] [--geometry GEOMETRY] CODE..
pub record IsSelect (rows : List Row) (select : Select) : Type 0 where
  pub filter : first_of (codes "where") rows ≡ Some select.filter.now
  pub language : language_of rows ≡ Ok select.filter_options.language
  pub score : score_of rows ≡ Ok select.filter_options.score
  pub folder : first_of (codes "data") rows ≡ Some select.«data».now
  pub layer : layer_of rows ≡ Ok (layer_parts select.layer)
  pub codes : codes_of rows ≡ Some (map (λ code. code.now) select.codes.items)

-- compile --filter FILE [--filter-lang LANG] [--score COLUMN]
pub record IsCompile (rows : List Row) (compile : Compile) : Type 0 where
  pub filter : file_of (codes "filter") rows ≡ Some compile.filter.now
  pub language : language_of rows ≡ Ok compile.filter_options.language
  pub score : score_of rows ≡ Ok compile.filter_options.score

-- run --program FILE --data DIR [--format FORMAT] [--columns NAMES] [--geometry GEOMETRY] CODE
pub record IsRun (rows : List Row) (run : Run) : Type 0 where
  pub program : first_of (codes "program") rows ≡ Some run.program.now
  pub folder : first_of (codes "data") rows ≡ Some run.«data».now
  pub layer : layer_of rows ≡ Ok (layer_parts run.layer)
  pub code : code_of rows ≡ Some run.code.now

-- trace --program FILE --data DIR --line N --limit L CODE
pub record IsTrace (rows : List Row) (trace : Trace) : Type 0 where
  pub program : first_of (codes "program") rows ≡ Some trace.program.now
  pub folder : first_of (codes "data") rows ≡ Some trace.«data».now
  pub line : number_of 19 (codes "line") rows ≡ Some trace.line
  pub limit : number_of 19 (codes "limit") rows ≡ Some trace.limit
  pub code : code_of rows ≡ Some trace.code.now

-- geocode --data DIR --number N --name TEXT [--zip Z] CODE..
pub record IsGeocode (rows : List Row) (geocode : Geocode) : Type 0 where
  pub folder : first_of (codes "data") rows ≡ Some geocode.«data».now
  pub number : Text
  pub has_number : first_of (codes "number") rows ≡ Some number
  pub name : Text
  pub has_name : first_of (codes "name") rows ≡ Some name
  pub query : query_of number name (first_of (codes "zip") rows) ≡ Ok (parts_of geocode.query)
  pub codes : codes_of rows ≡ Some (map (λ code. code.now) geocode.codes.items)

-- geocode-batch --addresses FILE --data DIR [--shape] CODE..
pub record IsGeocodeBatch (rows : List Row) (batch : GeocodeBatch) : Type 0 where
  pub addresses : file_of (codes "addresses") rows ≡ Some batch.addresses.now
  pub folder : first_of (codes "data") rows ≡ Some batch.«data».now
  pub shape : flag_of (codes "shape") rows ≡ batch.shape
  pub codes : codes_of rows ≡ Some (map (λ code. code.now) batch.codes.items)

-- verify --program FILE
abbrev pub IsVerify : List Row → Verify → Type 0
IsVerify rows verify = first_of (codes "program") rows ≡ Some verify.program.now

-- explain --program FILE [--lines FILE]
pub record IsExplain (rows : List Row) (explain : Explain) : Type 0 where
  pub program : first_of (codes "program") rows ≡ Some explain.program.now
  pub lines : first_of (codes "lines") rows ≡ option_map (λ lines. lines.now) explain.lines

-- asm --source FILE
abbrev pub IsAssemble : List Row → Assemble → Type 0
IsAssemble rows assemble = first_of (codes "source") rows ≡ Some assemble.source.now

-- dis --program FILE
abbrev pub IsDisassemble : List Row → Disassemble → Type 0
IsDisassemble rows disassemble = first_of (codes "program") rows ≡ Some disassemble.program.now

-- serve --data DIR (--port P | --any-port) [--host ADDRESS] [--public] [--log] CODE..
pub record IsServe (rows : List Row) (serve : Serve) : Type 0 where
  pub folder : first_of (codes "data") rows ≡ Some serve.«data».now
  pub address : IsAddress rows serve.address
  pub log : flag_of (codes "log") rows ≡ serve.log
  pub codes : codes_of rows ≡ Some (map (λ code. code.now) serve.codes.items)

-- the request of a command, from the values of its arguments; `serve` isn't a command over files
abbrev pub IsRequest : Subcommand → List Row → Request → Type 0
IsRequest command.Select rows request = (select : Select) × (request ≡ asked.Select select) × IsSelect rows select
IsRequest command.Compile rows request = (compile : Compile) × (request ≡ asked.Compile compile) × IsCompile rows compile
IsRequest command.Run rows request = (run : Run) × (request ≡ asked.Run run) × IsRun rows run
IsRequest command.Trace rows request = (trace : Trace) × (request ≡ asked.Trace trace) × IsTrace rows trace
IsRequest command.Geocode rows request = (geocode : Geocode) × (request ≡ asked.Geocode geocode) × IsGeocode rows geocode
IsRequest command.GeocodeBatch rows request = (batch : GeocodeBatch) × (request ≡ asked.GeocodeBatch batch) × IsGeocodeBatch rows batch
IsRequest command.Verify rows request = (verify : Verify) × (request ≡ asked.Verify verify) × IsVerify rows verify
IsRequest command.Explain rows request = (explain : Explain) × (request ≡ asked.Explain explain) × IsExplain rows explain
IsRequest command.Assemble rows request = (assemble : Assemble) × (request ≡ asked.Assemble assemble) × IsAssemble rows assemble
IsRequest command.Disassemble rows request =
    (disassemble : Disassemble) × (request ≡ asked.Disassemble disassemble) × IsDisassemble rows disassemble
IsRequest command.Serve rows request = ⊥

abbrev pub IsNamedRequest : Text → List Row → Request → Type 0
IsNamedRequest name rows request = IsSomeAnd (named name) (λ command. IsRequest command rows request)

-- the program takes the words, which name a command, and the values of its arguments make the request
pub record IsRequestOf (words : List Text) (request : Request) : Type 0 where
  pub taken : fault_of program words ≡ []
  pub made : IsSomeAnd (subcommand_of program words) (λ given. IsNamedRequest given.0 given.1 request)

abbrev pub HasNoRequest : List Text → Type 0
HasNoRequest words = (request : Request) → IsRequestOf words request → ⊥

-- the same for `serve`
pub record IsServeOf (words : List Text) (serve : Serve) : Type 0 where
  pub taken : fault_of program words ≡ []
  pub made : IsSomeAnd (subcommand_of program words) (λ given. (given.0 ≡ codes "serve") × IsServe given.1 serve)

-- the program takes the words, and the parser found the command that they name
pub record AreMatchesOf (words : List Text) (matches : ArgMatches) : Type 0 where
  pub taken : fault_of program words ≡ []
  pub command : subcommand_rows_of matches ≡ subcommand_of program words
