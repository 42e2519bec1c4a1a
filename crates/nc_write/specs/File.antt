-- The one file of a document (netCDF classic format specification; CDF-5). That a document has one
-- spelling is this project's own.
use Rattle.std.specs.Prelude.{ℕ, zero, suc, ◌+◌, ◌*◌, ℤ, List, [], ◌∷◌, ◌++◌, length, take, drop, replicate, Bool, true, false, nat_lt, ◌==◌, if◌then◌else◌}
use Rattle.std.specs.List.{flat_map, list_any, sum_by, range_with_len}
use Rattle.nc_write.specs.declared.NcKind.{NcKind}
use Rattle.nc_write.specs.declared.NcKind.TheVariants as kinds
use Rattle.nc_write.specs.declared.Values.{Values}
use Rattle.nc_write.specs.declared.Values.TheVariants.{Byte, Int, Long}
use Rattle.nc_write.specs.declared.DocDim.{DocDim}
use Rattle.nc_write.specs.declared.DocAtt.{DocAtt}
use Rattle.nc_write.specs.declared.DocVar.{DocVar}
use Rattle.nc_write.specs.declared.NcDoc.{NcDoc}
use Rattle.nc_write.specs.Kinds.{type_number, value}
use Rattle.nc_write.specs.Widths.{dimension_tag, variable_tag, attribute_tag, width, number_bytes, offset, code}
use Rattle.nc_write.specs.Extents.{pad_len, rounded, lens_of, has_records, piece_count, piece_len, piece_total, share_of, has_several, step_of}

-- Values.

-- the type that values are written in: BYTE, INT or INT64
abbrev pub kind_of : Values → NcKind
kind_of (Byte zs) = kinds.Byte
kind_of (Int zs) = kinds.Int
kind_of (Long zs) = kinds.Int64

-- the values as whole numbers
abbrev pub numbers_of : Values → List ℤ
numbers_of (Byte zs) = zs
numbers_of (Int zs) = zs
numbers_of (Long zs) = zs

-- values of 64 bits, which only version 5 has (CDF-5)
abbrev pub are_long : Values → Bool
are_long (Byte zs) = false
are_long (Int zs) = false
are_long (Long zs) = true

abbrev pub has_longs : DocVar → Bool
has_longs v = are_long v.values

-- The document as a whole.

-- version 5 where a variable is Long, else version 2
unfoldable pub version_of : NcDoc → ℕ
version_of doc = if list_any has_longs doc.vars then 5 else 2

-- a variable over the record dimension
abbrev pub is_record : NcDoc → DocVar → Bool
is_record doc v = has_records (lens_of doc.dims) v.dims

-- how many pieces the values stand in
abbrev pub pieces_of : NcDoc → DocVar → ℕ
pieces_of doc v = piece_total doc.records (is_record doc v)

-- whether records are padded
abbrev pub pads_records : NcDoc → Bool
pads_records doc = has_several (is_record doc) doc.vars

-- the bytes of a variable's one piece, or of one record
abbrev pub doc_piece_len : NcDoc → DocVar → ℕ
doc_piece_len doc v = piece_len (lens_of doc.dims) (kind_of v.values) v.dims

-- the bytes of a variable without the record dimension, padding included
abbrev pub fixed_len : NcDoc → DocVar → ℕ
fixed_len doc v = if is_record doc v then 0 else rounded (doc_piece_len doc v)

-- the bytes of one record of a record variable, padding included
abbrev pub record_len : NcDoc → DocVar → ℕ
record_len doc v = share_of (pads_records doc) (is_record doc v) (doc_piece_len doc v)

-- the bytes of the first record, of which there is none where records is 0
abbrev pub first_len : NcDoc → DocVar → ℕ
first_len doc v = if doc.records == 0 then 0 else record_len doc v

-- the bytes of all variables without the record dimension
abbrev pub fixed_total : NcDoc → ℕ
fixed_total doc = sum_by (fixed_len doc) doc.vars

-- the bytes from one record to the next
abbrev pub doc_step : NcDoc → ℕ
doc_step doc = step_of (is_record doc) (doc_piece_len doc) doc.vars

-- The header.

-- bytes, filled up to a multiple of 4
abbrev pub padded_bytes : ℕ → List ℕ → List ℕ
padded_bytes fill bytes = bytes ++ replicate (pad_len (length bytes)) fill

-- a name: its length, and its bytes padded with zero bytes
unfoldable pub name_bytes : ℕ → List ℕ → List ℕ
name_bytes version text = number_bytes version (length text) ++ padded_bytes 0 text

-- a list of so many items under its tag; one without items is written as an absent one
unfoldable pub tagged : ℕ → ℕ → ℕ → List ℕ → List ℕ
tagged version tag zero items = code 0 ++ number_bytes version 0
tagged version tag (suc n) items = code tag ++ number_bytes version (suc n) ++ items

-- a dimension: its name and its length
unfoldable pub dimension : ℕ → DocDim → List ℕ
dimension version d = name_bytes version d.name ++ number_bytes version d.len

-- an attribute of type INT with one value
unfoldable pub attribute : ℕ → DocAtt → List ℕ
attribute version a = name_bytes version a.name ++ code (type_number kinds.Int) ++ number_bytes version 1 ++ value kinds.Int a.value

-- the greatest multiple of 4 that a vsize holds: of 32 bits without sign (netCDF classic format specification),
-- or of 64 bits with sign (this project's own)
abbrev pub vsize_limit : ℕ → ℕ
vsize_limit version = if version == 5 then 9223372036854775804 else 4294967292

-- a vsize: the number itself, or all bytes ff where it exceeds the limit
unfoldable pub vsize : ℕ → ℕ → List ℕ
vsize version n = if nat_lt (vsize_limit version) n then replicate (width version) 0xff else number_bytes version n

-- a variable's name and the ids of its dimensions
unfoldable pub shape : ℕ → DocVar → List ℕ
shape version v = name_bytes version v.name ++ number_bytes version (length v.dims) ++ flat_map (number_bytes version) v.dims

-- a variable whose first byte stands at begin; its list of attributes is absent
unfoldable pub variable : NcDoc → ℕ → DocVar → List ℕ
variable doc begin v =
    shape (version_of doc) v
    ++ tagged (version_of doc) attribute_tag 0 []
    ++ code (type_number (kind_of v.values))
    ++ vsize (version_of doc) (rounded (doc_piece_len doc v))
    ++ offset (version_of doc) begin

-- where a variable begins, of two places: the one behind the variables without the record dimension that stand
-- before it, and the one behind the first records of the record variables before it
abbrev pub begin_of : NcDoc → ℕ → ℕ → DocVar → ℕ
begin_of doc fixed record_place v = if is_record doc v then record_place else fixed

-- each variable begins behind the data of those of its kind that stand before it
abbrev pub variables : NcDoc → ℕ → ℕ → List DocVar → List ℕ
variables doc fixed record_place [] = []
variables doc fixed record_place (v ∷ vs) =
    variable doc (begin_of doc fixed record_place v) v
    ++ variables doc (fixed + fixed_len doc v) (record_place + first_len doc v) vs

-- the header of a document whose data begins at a place: magic, numrecs and three lists
unfoldable pub header : NcDoc → ℕ → List ℕ
header doc begin =
    0x43 ∷ 0x44 ∷ 0x46 ∷ version_of doc ∷ []
    ++ number_bytes (version_of doc) doc.records
    ++ tagged (version_of doc) dimension_tag (length doc.dims) (flat_map (dimension (version_of doc)) doc.dims)
    ++ tagged (version_of doc) attribute_tag (length doc.atts) (flat_map (attribute (version_of doc)) doc.atts)
    ++ tagged (version_of doc) variable_tag (length doc.vars) (variables doc begin (begin + fixed_total doc) doc.vars)

-- the length of the header, which is the same wherever the data begins
unfoldable pub header_len : NcDoc → ℕ
header_len doc = length (header doc 0)

-- The data.

-- values one after another
abbrev pub value_bytes : NcKind → List ℤ → List ℕ
value_bytes kind zs = flat_map (value kind) zs

-- the values of a variable without the record dimension, padded with the default fill value of BYTE
unfoldable pub fixed_data : NcDoc → DocVar → List ℕ
fixed_data doc v = if is_record doc v then [] else padded_bytes 0x81 (value_bytes (kind_of v.values) (numbers_of v.values))

-- the values of record r, from 0
abbrev pub record_numbers : NcDoc → ℕ → DocVar → List ℤ
record_numbers doc r v = take (piece_count (lens_of doc.dims) v.dims) (drop (r * piece_count (lens_of doc.dims) v.dims) (numbers_of v.values))

-- the values of one record, padded where there are several record variables
abbrev pub padded_if : Bool → List ℕ → List ℕ
padded_if several bytes = if several then padded_bytes 0x81 bytes else bytes

-- what record r has of a variable
unfoldable pub record_data : NcDoc → ℕ → DocVar → List ℕ
record_data doc r v = if is_record doc v then padded_if (pads_records doc) (value_bytes (kind_of v.values) (record_numbers doc r v)) else []

-- record r of each record variable, in order
unfoldable pub record_of : NcDoc → ℕ → List ℕ
record_of doc r = flat_map (record_data doc r) doc.vars

-- first the variables without the record dimension, then the records
unfoldable pub data_of : NcDoc → List ℕ
data_of doc = flat_map (fixed_data doc) doc.vars ++ flat_map (record_of doc) (range_with_len 0 doc.records)

-- the data begins where the header ends
unfoldable pub file_of : NcDoc → List ℕ
file_of doc = header doc (header_len doc) ++ data_of doc
