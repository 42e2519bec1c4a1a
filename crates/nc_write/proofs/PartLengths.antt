-- How long the parts of a file are.
use Rattle.std.proofs.Common.{zero, suc, ◌≡◌, ◌+◌, ◌*◌, ℕ, ℤ, List, [], ◌∷◌, ◌++◌, true, false, length, replicate, refl, ap, ◌∙◌, arith, length-append, nat_lt, if◌then◌else◌, ◌==◌}
use Rattle.std.proofs.lemmas.List.{length-replicate}
use Rattle.std.proofs.lemmas.List.Sums.{sum_by-cons}
use Rattle.std.proofs.Math.Nat.{mul-add, mul-suc}
use Rattle.std.specs.List.{flat_map, list_any, sum_by}
use Rattle.byteorder.specs.Endian.{big_bytes}
use Rattle.byteorder.specs.Numbers.{length-bytes_high_first}
use Rattle.nc_write.specs.declared.NcDoc.{NcDoc}
use Rattle.nc_write.specs.declared.DocDim.{DocDim}
use Rattle.nc_write.specs.declared.DocAtt.{DocAtt}
use Rattle.nc_write.specs.declared.DocVar.{DocVar}
use Rattle.nc_write.specs.declared.NcKind.{NcKind}
use Rattle.nc_write.specs.declared.NcKind.TheVariants as kinds
use Rattle.nc_write.specs.Kinds.{value, size_of, type_number}
use Rattle.nc_write.specs.Widths.{width, begin_width, number_bytes, offset, code}
use Rattle.nc_write.specs.Extents.{pad_len, rounded}
use Rattle.nc_write.specs.File.{name_bytes, padded_bytes, tagged, dimension, attribute, vsize, vsize_limit, shape, variable, variables, begin_of, fixed_len, first_len, fixed_total, doc_piece_len, kind_of, header, header_len, version_of, has_longs}

pub length_number : (version n : ℕ) → length (number_bytes version n) ≡ width version
unfolding number_bytes
length_number version n = length-bytes_high_first (width version) n

length_code : (n : ℕ) → length (code n) ≡ 4
unfolding code
length_code n = refl

pub length_value : (kind : NcKind) (z : ℤ) → length (value kind z) ≡ size_of kind
unfolding value
length_value kind z = length-bytes_high_first (size_of kind) _

-- a begin has 8 bytes in the versions that are written
pub length_offset : (doc : NcDoc) (n : ℕ) → length (offset (version_of doc) n) ≡ 8
unfolding offset begin_width version_of
length_offset doc n =
    elim (list_any has_longs doc.vars) as (λ b. length (big_bytes (if (if b then 5 else 2) == 1 then 4 else 8) n) ≡ 8) [ true ↦ refl | false ↦ refl ]

pub length_padded : (fill : ℕ) (bytes : List ℕ) → length (padded_bytes fill bytes) ≡ rounded (length bytes)
length_padded fill bytes = omega (arith, length-append bytes (replicate (pad_len (length bytes)) fill), length-replicate {A = ℕ} (pad_len (length bytes)) fill)

pub length_name : (version : ℕ) (text : List ℕ) → length (name_bytes version text) ≡ width version + rounded (length text)
unfolding name_bytes
length_name version text = omega (arith, length-append (number_bytes version (length text)) (padded_bytes 0 text), length_number version (length text), length_padded 0 text)

pub length_dimension : (version : ℕ) (d : DocDim) → length (dimension version d) ≡ length (name_bytes version d.name) + width version
unfolding dimension
length_dimension version d = omega (arith, length-append (name_bytes version d.name) (number_bytes version d.len), length_number version d.len)

pub length_attribute : (version : ℕ) (a : DocAtt) → length (attribute version a) ≡ length (name_bytes version a.name) + width version + 8
unfolding attribute
length_attribute version a =
    omega (
      arith,
      length-append (name_bytes version a.name ++ code (type_number kinds.Int) ++ number_bytes version 1) (value kinds.Int a.value),
      length-append (name_bytes version a.name ++ code (type_number kinds.Int)) (number_bytes version 1),
      length-append (name_bytes version a.name) (code (type_number kinds.Int)),
      length_code (type_number kinds.Int),
      length_number version 1,
      length_value kinds.Int a.value,
    )

pub length_tagged : (version tag n : ℕ) (items : List ℕ) → (n ≡ 0 → items ≡ []) → length (tagged version tag n items) ≡ 4 + width version + length items
unfolding tagged
length_tagged version tag zero items none = omega (arith, length-append (code 0) (number_bytes version 0), length_code 0, length_number version 0, ap length (none refl))
length_tagged version tag (suc n) items none = omega (arith, length-append (code tag ++ number_bytes version (suc n)) items, length-append (code tag) (number_bytes version (suc n)), length_code tag, length_number version (suc n))

length_vsize : (version n : ℕ) → length (vsize version n) ≡ width version
unfolding vsize
length_vsize version n =
    elim (nat_lt (vsize_limit version) n) as (λ b. length (if b then replicate (width version) 0xff else number_bytes version n) ≡ width version) [
      | true ↦ length-replicate {A = ℕ} (width version) 0xff
      | false ↦ length_number version n
    ]

length_ids : (version : ℕ) (ids : List ℕ) → length (flat_map (number_bytes version) ids) ≡ width version * length ids
length_ids version [] = omega arith
length_ids version (n ∷ ns) =
    length-append (number_bytes version n) (flat_map (number_bytes version) ns)
    ∙ omega (arith, length_number version n, length_ids version ns, mul-suc (width version) (length ns))

-- a variable's part of the header is as long wherever its data begins
pub length_variable : (version : ℕ) (v : DocVar) (doc : NcDoc) (begin : ℕ) → version ≡ version_of doc → length (variable doc begin v) ≡ length (name_bytes version v.name) + width version * (length v.dims + 3) + 16
unfolding variable shape
length_variable version v doc begin is =
    let w = width (version_of doc) in
    let tag = tagged (version_of doc) 12 0 [] in
    let kind = code (type_number (kind_of v.values)) in
    let size = vsize (version_of doc) (rounded (doc_piece_len doc v)) in
    let text = name_bytes (version_of doc) v.name in
    let count = number_bytes (version_of doc) (length v.dims) in
    let ids = flat_map (number_bytes (version_of doc)) v.dims in
    let same : name_bytes version v.name ≡ text = ap (λ n. name_bytes n v.name) is in
    let wide : width version ≡ w = ap width is in
    let far : length ids ≡ w * length v.dims = length_ids (version_of doc) v.dims in
    rw (wide, same) (
    omega (
      arith,
      length-append (text ++ count ++ ids ++ tag ++ kind ++ size) (offset (version_of doc) begin),
      length-append (text ++ count ++ ids ++ tag ++ kind) size,
      length-append (text ++ count ++ ids ++ tag) kind,
      length-append (text ++ count ++ ids) tag,
      length-append (text ++ count) ids,
      length-append text count,
      length_number (version_of doc) (length v.dims),
      far,
      length_tagged (version_of doc) 12 0 [] (λ _. refl),
      length_code (type_number (kind_of v.values)),
      length_vsize (version_of doc) (rounded (doc_piece_len doc v)),
      length_offset doc begin,
      mul-add w (length v.dims) 3,
    )
    )

none_of : {X : Type 0} (xs : List X) → length xs ≡ 0 → xs ≡ []
none_of [] h = refl
none_of (x ∷ xs) h = absurd (omega arith)

-- the variables are as long wherever their data begins
pub variables_sum : (doc : NcDoc) (b c : ℕ) (vs : List DocVar) → length (variables doc b c vs) ≡ sum_by (λ v. length (variable doc 0 v)) vs
variables_sum doc b c [] = refl
variables_sum doc b c (v ∷ vs) =
    omega (
      arith,
      length-append (variable doc (begin_of doc b c v) v) (variables doc (b + fixed_len doc v) (c + first_len doc v) vs),
      length_variable (version_of doc) v doc (begin_of doc b c v) refl,
      length_variable (version_of doc) v doc 0 refl,
      variables_sum doc (b + fixed_len doc v) (c + first_len doc v) vs,
      sum_by-cons (λ (w : DocVar). length (variable doc 0 w)) v vs,
    )

-- the header by its parts
pub length_header : (doc : NcDoc) (begin : ℕ) → length (header doc begin) ≡ 16 + 4 * width (version_of doc) + (length (flat_map (dimension (version_of doc)) doc.dims) + length (flat_map (attribute (version_of doc)) doc.atts) + sum_by (λ v. length (variable doc 0 v)) doc.vars)
unfolding header
length_header doc begin =
    let n = version_of doc in
    let magic = 0x43 ∷ 0x44 ∷ 0x46 ∷ n ∷ [] in
    let records = number_bytes n doc.records in
    let dims = flat_map (dimension n) doc.dims in
    let atts = flat_map (attribute n) doc.atts in
    let vars = variables doc begin (begin + fixed_total doc) doc.vars in
    omega (
      arith,
      length-append (magic ++ records ++ tagged n 10 (length doc.dims) dims ++ tagged n 12 (length doc.atts) atts) (tagged n 11 (length doc.vars) vars),
      length-append (magic ++ records ++ tagged n 10 (length doc.dims) dims) (tagged n 12 (length doc.atts) atts),
      length-append (magic ++ records) (tagged n 10 (length doc.dims) dims),
      length-append magic records,
      length_number n doc.records,
      length_tagged n 10 (length doc.dims) dims (λ h. ap (flat_map (dimension n)) (none_of doc.dims h)),
      length_tagged n 12 (length doc.atts) atts (λ h. ap (flat_map (attribute n)) (none_of doc.atts h)),
      length_tagged n 11 (length doc.vars) vars (λ h. ap (variables doc begin (begin + fixed_total doc)) (none_of doc.vars h)),
      variables_sum doc begin (begin + fixed_total doc) doc.vars,
    )

pub length_header_any : (doc : NcDoc) (begin : ℕ) → length (header doc begin) ≡ header_len doc
unfolding header_len
length_header_any doc begin = omega (arith, length_header doc begin, length_header doc 0)

pub header_len_is : (doc : NcDoc) → header_len doc ≡ 16 + 4 * width (version_of doc) + (length (flat_map (dimension (version_of doc)) doc.dims) + length (flat_map (attribute (version_of doc)) doc.atts) + sum_by (λ v. length (variable doc 0 v)) doc.vars)
unfolding header_len
header_len_is doc = length_header doc 0
