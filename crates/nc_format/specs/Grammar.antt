-- The grammar of a header, by the productions of the netCDF classic format specification; version 5 by CDF-5.
-- The bound on counts and lengths, and what is let through, are this project's own. Numbers are read without sign.
use Rattle.std.specs.Prelude.{ℕ, ◌*◌, List, [], length, Bool, nat_lt, nat_le, ◌==◌, ◌&&◌, ◌||◌, not, if◌then◌else◌, slice_index}
use Rattle.std.specs.List.{list_any}
use Rattle.nc_write.specs.declared.NcKind.{NcKind}
use Rattle.nc_write.specs.Kinds.{kind_numbered, size_of}
use Rattle.nc_write.specs.Widths.{dimension_tag, variable_tag, attribute_tag, width, begin_width}
pub use Rattle.nc_write.specs.Extents.{lens_of}
use Rattle.nc_write.specs.declared.DocDim.{DocDim as NcDim}
use Rattle.nc_format.specs.declared.NcAtt.{NcAtt}
use Rattle.nc_format.specs.declared.NcVar.{NcVar}
use Rattle.nc_format.specs.declared.NcFile.{NcFile}
use Rattle.nc_format.specs.declared.fault.NcFault.TheVariants.{BadField, Streaming}
use Rattle.nc_format.specs.Parts.{◌>>=◌, Part, gives, such_that, items, number, padded}

-- Counts, names and types.

-- a count or a length: no more than 4,294,967,295
unfoldable pub bounded : ℕ → Part ℕ
bounded version = such_that (number (width version)) (λ n. nat_le n 4294967295) BadField

-- a name: its length in bytes, and its bytes
unfoldable pub name : ℕ → Part (List ℕ)
name version = do
  len ← bounded version
  padded len

-- the tag of a list, its own or 0 for an absent list
unfoldable pub tag : ℕ → Part ℕ
tag own = such_that (number 4) (λ t. t == own || t == 0) BadField

-- the count behind a tag, which is 0 in an absent list
unfoldable pub count : ℕ → ℕ → ℕ → Part ℕ
count version own t = such_that (bounded version) (λ n. t == own || n == 0) BadField

-- a tag, a count, and as many items, each with those before it in view
unfoldable pub listed : {A : Type 0} → ℕ → ℕ → (List A → Part A) → Part (List A)
listed version own item = do
  t ← tag own
  n ← count version own t
  items item n []

-- numbers of types: 1 to 6, in version 5 to 11
abbrev pub is_type : ℕ → ℕ → Bool
is_type version t = nat_le 1 t && nat_le t (if version == 5 then 11 else 6)

-- a type, by its number
unfoldable pub nc_type : ℕ → Part NcKind
nc_type version = do
  t ← such_that (number 4) (is_type version) BadField
  gives (kind_numbered t)

-- The parts of a header.

-- the number all of whose bytes are ff
abbrev pub all_ff : ℕ → ℕ
all_ff version = if version == 5 then 18446744073709551615 else 4294967295

-- the number of records, which is all ff in a streaming file
unfoldable pub numrecs : ℕ → Part ℕ
numrecs version = such_that (such_that (number (width version)) (λ n. not (n == all_ff version)) (λ _. Streaming)) (λ n. nat_le n 4294967295) BadField

-- the record dimension has the length 0
abbrev pub is_record_dim : NcDim → Bool
is_record_dim d = d.len == 0

-- a dimension; at most one is the record dimension
unfoldable pub dim : ℕ → Bool → Part NcDim
dim version seen = do
  text ← name version
  len ← such_that (bounded version) (λ n. not (seen && n == 0)) BadField
  gives (record { name = text; len = len })

-- a dimension behind those in front
abbrev pub next_dim : ℕ → List NcDim → Part NcDim
next_dim version front = dim version (list_any is_record_dim front)

-- the dimensions, under the tag 10
unfoldable pub dim_list : ℕ → Part (List NcDim)
dim_list version = listed version dimension_tag (next_dim version)

-- an attribute: its name, its type, and so many values
unfoldable pub att : ℕ → Part NcAtt
att version = do
  text ← name version
  kind ← nc_type version
  count ← bounded version
  values ← padded (count * size_of kind)
  gives (record { name = text; kind = kind; count = count; bytes = values })

-- the attributes of a file or of a variable, under the tag 12
unfoldable pub att_list : ℕ → Part (List NcAtt)
att_list version = listed version attribute_tag (λ front. att version)

-- the number of a dimension, from 0; the record dimension stands nowhere but first
unfoldable pub dim_id : ℕ → List NcDim → Bool → Part ℕ
dim_id version dims is_first = such_that (such_that (number (width version)) (λ id. nat_lt id (length dims)) BadField) (λ id. is_first || not (slice_index (lens_of dims) id == 0)) BadField

-- the number of a dimension behind those in front
abbrev pub next_id : ℕ → List NcDim → List ℕ → Part ℕ
next_id version dims front = dim_id version dims (length front == 0)

-- a count, and the numbers of as many dimensions
unfoldable pub dim_ids : ℕ → List NcDim → Part (List ℕ)
dim_ids version dims = do
  n ← bounded version
  items (next_id version dims) n []

-- a variable, whose vsize may hold anything; of where its values stand only the begin is a field, and the rest is 0 here
unfoldable pub var : ℕ → List NcDim → Part NcVar
var version dims = do
  text ← name version
  ids ← dim_ids version dims
  atts ← att_list version
  kind ← nc_type version
  vsize ← number (width version)
  begin ← number (begin_width version)
  gives (record { name = text; dims = ids; atts = atts; kind = kind; begin = begin; parts = 0; part = 0; step = 0 })

-- the variables, under the tag 11
unfoldable pub var_list : ℕ → List NcDim → Part (List NcVar)
var_list version dims = listed version variable_tag (λ front. var version dims)

-- what stands behind the magic
unfoldable pub body : ℕ → Part NcFile
body version = do
  records ← numrecs version
  dims ← dim_list version
  atts ← att_list version
  vars ← var_list version dims
  gives (record { version = version; records = records; dims = dims; atts = atts; vars = vars })
