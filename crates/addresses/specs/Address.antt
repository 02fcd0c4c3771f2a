-- An address: the cells of a record, named by the columns of its file.
use Rattle.std.specs.Prelude.{ℕ, List, [], Option, Some, None, option_map, unwrap_or}
use Rattle.csv.specs.Records.{field_at, fields_of}
use Rattle.addresses.specs.Columns.{trimmed}
use Rattle.addresses.specs.Reading.{RecordParts}
use Rattle.addresses.specs.Record.{Fields}
use Rattle.addresses.specs.declared.columns.HeaderColumns.{HeaderColumns}
use Rattle.addresses.specs.declared.row.Address.{Address}
use Rattle.addresses.specs.declared.row.AddressRow.{AddressRow}

-- an address, wherever its text is stored
pub record AddressParts : Type 0 where
  pub line : ℕ
  pub id : Option (List ℕ)
  pub number : List ℕ
  pub name : List ℕ
  pub zip : List ℕ
  pub predir : List ℕ
  pub kind : List ℕ
  pub sufdir : List ℕ

abbrev pub parts_of : Address → AddressParts
parts_of address = record {
  line = address.line;
  id = option_map (λ id. id.now) address.id;
  number = address.number.now;
  name = address.name.now;
  zip = address.zip.now;
  predir = address.predir.now;
  kind = address.kind.now;
  sufdir = address.sufdir.now;
}

-- the cell in a column, empty if the record is too short
abbrev pub cell_in : Fields → ℕ → List ℕ
cell_in fields column = unwrap_or (field_at fields column) []

-- the same without leading and trailing white space, also empty if there is no such column
abbrev pub value_in : Fields → Option ℕ → List ℕ
value_in fields None = []
value_in fields (Some column) = trimmed (cell_in fields column)

-- the address of a record; its id is not trimmed
abbrev pub address_of : HeaderColumns → RecordParts → AddressParts
address_of columns row = record {
  line = row.line;
  id = option_map (cell_in row.fields) columns.id;
  number = value_in row.fields (Some columns.number);
  name = value_in row.fields (Some columns.name);
  zip = value_in row.fields columns.zip;
  predir = value_in row.fields columns.predir;
  kind = value_in row.fields columns.kind;
  sufdir = value_in row.fields columns.sufdir;
}

-- the address in a row
abbrev pub address_in : AddressRow → AddressParts
address_in row = address_of row.columns (record { line = row.line; fields = fields_of row.cells })

-- the row before the first address
abbrev pub no_address : AddressParts
no_address = record { line = 0; id = None; number = []; name = []; zip = []; predir = []; kind = []; sufdir = [] }
