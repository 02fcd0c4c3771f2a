-- The columns of a file of addresses, as named by its header.
use Rattle.std.specs.Prelude.{ℕ, ◌-◌, Bool, List, length, take, drop, Option, Some, None, Result, Ok, Err, codes}
use Rattle.std.specs.Char.{is_ascii_whitespace}
use Rattle.std.specs.List.{position_from, prefix_len, suffix_len}
use Rattle.std.specs.Str.{str_eq_ignore_ascii_case}
use Rattle.addresses.specs.Record.{Fields}
use Rattle.addresses.specs.declared.columns.HeaderColumns.{HeaderColumns}
use Rattle.addresses.specs.declared.fault.AddressFaultKind.{AddressFaultKind}
use Rattle.addresses.specs.declared.fault.AddressFaultKind.TheVariants.{NoNumber, NoName}

abbrev pub without_space_after : List ℕ → List ℕ
without_space_after cell = take (length cell - suffix_len is_ascii_whitespace cell) cell

-- a cell without leading and trailing ASCII white space
abbrev pub trimmed : List ℕ → List ℕ
trimmed cell = without_space_after (drop (prefix_len is_ascii_whitespace cell) cell)

-- whether a cell of the header is this name, ignoring leading and trailing white space and ASCII case
abbrev pub is_named : List ℕ → List ℕ → Bool
is_named name cell = str_eq_ignore_ascii_case (trimmed cell) name

-- the first column with this name
abbrev pub column_named : List ℕ → Fields → Option ℕ
column_named name header = position_from (is_named name) 0 header

abbrev pub columns_with : Option ℕ → Option ℕ → Fields → Result HeaderColumns AddressFaultKind
columns_with (Some number) (Some name) header = Ok (record {
  id = column_named (codes "id") header;
  number = number;
  name = name;
  zip = column_named (codes "zip") header;
  predir = column_named (codes "predir") header;
  kind = column_named (codes "type") header;
  sufdir = column_named (codes "sufdir") header;
})
columns_with None name header = Err NoNumber
columns_with (Some number) None header = Err NoName

-- a header's columns; it has to have a number and a name
abbrev pub columns_of : Fields → Result HeaderColumns AddressFaultKind
columns_of header = columns_with (column_named (codes "number") header) (column_named (codes "name") header) header
