-- Tags of a header, and how many bytes its numbers have, by the version of the file: the last byte of its magic
-- (netCDF classic format specification; version 5 by CDF-5).
use Rattle.std.specs.Prelude.{ℕ, List, ◌==◌, if◌then◌else◌}
use Rattle.byteorder.specs.Endian.{big_bytes}

-- the tags of the three lists
abbrev pub dimension_tag : ℕ
dimension_tag = 10

abbrev pub variable_tag : ℕ
variable_tag = 11

abbrev pub attribute_tag : ℕ
attribute_tag = 12

-- numrecs, counts, lengths, dimension ids and vsize: 4 bytes in versions 1 and 2, 8 bytes in version 5
unfoldable pub width : ℕ → ℕ
width version = if version == 5 then 8 else 4

-- begins: 4 bytes in version 1, 8 bytes in versions 2 and 5
unfoldable pub begin_width : ℕ → ℕ
begin_width version = if version == 1 then 4 else 8

-- a number, the highest byte first
unfoldable pub number_bytes : ℕ → ℕ → List ℕ
number_bytes version n = big_bytes (width version) n

-- the place of a variable's first byte
unfoldable pub offset : ℕ → ℕ → List ℕ
offset version n = big_bytes (begin_width version) n

-- a tag or a type: four bytes in every version
unfoldable pub code : ℕ → List ℕ
code n = big_bytes 4 n
