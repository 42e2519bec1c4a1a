-- Which documents are well formed, and what is said of one whose file is too long.
use Rattle.std.specs.Prelude.{◌≡◌, ◌≢◌, ℕ, ◌*◌, ◌<◌, ◌≤◌, ◌^◌, ◌==◌, List, length, map, drop, All, if◌then◌else◌, slice_index, ⊤}
use Rattle.std.specs.List.{count_by}
use Rattle.nc_write.specs.declared.DocVar.{DocVar}
use Rattle.nc_write.specs.declared.NcDoc.{NcDoc}
use Rattle.nc_write.specs.declared.EncFault.{EncFault}
use Rattle.nc_write.specs.declared.EncFault.TheVariants.{TooLarge, NoMemory}
use Rattle.nc_write.specs.Extents.{lens_of, product_of, piece_count}
use Rattle.nc_write.specs.File.{numbers_of, pieces_of, file_of}

-- the lengths of all dimensions, with the number of records as the length of the record dimension
abbrev pub full_lens : NcDoc → List ℕ
full_lens doc = map (λ n. if n == 0 then doc.records else n) (lens_of doc.dims)

-- each name has fewer than 2,147,483,648 items, and so has every list that isn't the values of a variable
pub record HasShortLists (doc : NcDoc) : Type 0 where
  pub dims : length doc.dims < 2 ^ 31
  pub dim_names : All (λ d. length d.name < 2 ^ 31) doc.dims
  pub atts : length doc.atts < 2 ^ 31
  pub att_names : All (λ a. length a.name < 2 ^ 31) doc.atts
  pub vars : length doc.vars < 2 ^ 31
  pub var_names : All (λ v. length v.name < 2 ^ 31) doc.vars
  pub ids : All (λ v. length v.dims < 2 ^ 31) doc.vars

-- The rules that a document keeps.
pub record IsWellFormed (doc : NcDoc) : Type 0 where
  -- a length is a number of 32 bits
  pub lens : All (λ d. d.len ≤ 4294967295) doc.dims
  -- no more than one dimension is the record dimension
  pub one_record_dim : count_by (λ d. d.len == 0) doc.dims ≤ 1
  -- a dimension id names a dimension
  pub ids : All (λ v. All (λ id. id < length doc.dims) v.dims) doc.vars
  -- the record dimension stands nowhere but first
  pub record_dim_first : All (λ v. All (λ id. slice_index (lens_of doc.dims) id ≢ 0) (drop 1 v.dims)) doc.vars
  -- a variable has as many values as the product of its lengths says
  pub values : All (λ v. length (numbers_of v.values) ≡ product_of (full_lens doc) v.dims) doc.vars
  -- the number of records doesn't read as that of a streaming file
  pub records : doc.records < 4294967295
  -- without a record dimension there are no records
  pub no_records : All (λ d. d.len ≢ 0) doc.dims → doc.records ≡ 0
  pub short_lists : HasShortLists doc
  pub file : length (file_of doc) < 2 ^ 63

-- a variable has the values of as many pieces as it is to have: one, or one a record
abbrev pub HasItsValues : NcDoc → DocVar → Type 0
HasItsValues doc v = length (numbers_of v.values) ≡ pieces_of doc v * piece_count (lens_of doc.dims) v.dims

-- too large is said with the length, and only past the limit
abbrev pub SaysLength : ℕ → EncFault → Type 0
SaysLength len (TooLarge n) = (n ≡ len) × (2147483647 < len)
SaysLength len NoMemory = ⊤
