-- What the header of a document's file says.
use Rattle.std.specs.Prelude.{◌≡◌, ◌⊎◌, ℕ, ◌+◌, List, [], ◌∷◌, map, All, Option, Some, None, FitsSigned}
use Rattle.nc_write.specs.declared.NcKind.TheVariants as kinds
use Rattle.nc_write.specs.declared.NcDoc.{NcDoc}
use Rattle.nc_write.specs.declared.DocAtt.{DocAtt}
use Rattle.nc_write.specs.declared.DocVar.{DocVar}
use Rattle.nc_write.specs.Kinds.{bits_of, value}
use Rattle.nc_write.specs.File.{kind_of, numbers_of, version_of, fixed_len, first_len, fixed_total, begin_of, header_len}
use Rattle.nc_format.specs.declared.NcAtt.{NcAtt}
use Rattle.nc_format.specs.declared.NcVar.{NcVar}
use Rattle.nc_format.specs.declared.NcFile.{NcFile}
use Rattle.nc_format.specs.declared.fault.NcFault.{NcFault}
use Rattle.nc_format.specs.declared.fault.NcFault.TheVariants.{DataOutside}
use Rattle.nc_format.specs.Placing.{with_places}

-- an attribute as it is read: one INT
abbrev pub att_of : DocAtt → NcAtt
att_of a = record { name = a.name; kind = kinds.Int; count = 1; bytes = value kinds.Int a.value }

-- a variable whose first byte stands at begin
abbrev pub var_of : ℕ → DocVar → NcVar
var_of begin v = record { name = v.name; dims = v.dims; atts = []; kind = kind_of v.values; begin = begin; parts = 0; part = 0; step = 0 }

-- each variable begins behind the data of those before it
abbrev pub vars_of : NcDoc → ℕ → ℕ → List DocVar → List NcVar
vars_of doc fixed record_place [] = []
vars_of doc fixed record_place (v ∷ vs) = var_of (begin_of doc fixed record_place v) v ∷ vars_of doc (fixed + fixed_len doc v) (record_place + first_len doc v) vs

-- the fields of the header
abbrev pub fields_of : NcDoc → NcFile
fields_of doc = record {
  version = version_of doc;
  records = doc.records;
  dims = doc.dims;
  atts = map att_of doc.atts;
  vars = vars_of doc (header_len doc) (header_len doc + fixed_total doc) doc.vars;
}

-- the header, with the places of all values
abbrev pub header_of : NcDoc → NcFile
header_of doc = with_places (fields_of doc)

-- what a document and a header have in common
pub record IsOfDoc (doc : NcDoc) (f : NcFile) : Type 0 where
  pub records : f.records ≡ doc.records
  pub dims : f.dims ≡ doc.dims
  pub atts : f.atts ≡ map att_of doc.atts
  pub names : map (λ v. v.name) f.vars ≡ map (λ v. v.name) doc.vars
  pub shapes : map (λ v. v.dims) f.vars ≡ map (λ v. v.dims) doc.vars
  pub kinds : map (λ v. v.kind) f.vars ≡ map (λ v. kind_of v.values) doc.vars

-- each value is a number of its type, as it is in every document of a program
abbrev pub HasTypedValues : DocVar → Type 0
HasTypedValues v = All (FitsSigned (bits_of (kind_of v.values))) (numbers_of v.values)

-- no fault, or values outside the file
abbrev pub IsWhole : Option NcFault → Type 0
IsWhole first = (first ≡ None) ⊎ ((v : ℕ) × (first ≡ Some (DataOutside v)))
