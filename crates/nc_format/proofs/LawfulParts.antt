-- Each part of a header is lawful.
use Rattle.std.proofs.Common.{ℕ, Bool, List, []}
use Rattle.nc_write.specs.Widths.{width, begin_width}
use Rattle.nc_write.specs.declared.DocDim.{DocDim as NcDim}
use Rattle.nc_format.specs.Parts.{Part}
use Rattle.nc_format.specs.Grammar.{bounded, name, tag, count, listed, nc_type, numrecs, dim, dim_list, att, att_list, dim_id, dim_ids, var, var_list, body, is_record_dim, next_dim, next_id}
use Rattle.nc_format.proofs.Lawful.{IsLawful, gives_lawful, bind_lawful, such_that_lawful, items_lawful, number_lawful, padded_lawful}
use Rattle.std.specs.List.{list_any}
use Rattle.std.proofs.Common.{length, eqb}

pub bounded_lawful : (version : ℕ) → IsLawful (bounded version)
unfolding bounded
bounded_lawful version = such_that_lawful _ _ _ (number_lawful (width version))

pub name_lawful : (version : ℕ) → IsLawful (name version)
unfolding name
name_lawful version = bind_lawful _ _ (bounded_lawful version) padded_lawful

tag_lawful : (own : ℕ) → IsLawful (tag own)
unfolding tag
tag_lawful own = such_that_lawful _ _ _ (number_lawful 4)

count_lawful : (version own t : ℕ) → IsLawful (count version own t)
unfolding count
count_lawful version own t = such_that_lawful _ _ _ (bounded_lawful version)

listed_lawful : {A : Type 0} (version own : ℕ) (item : List A → Part A) → ((front : List A) → IsLawful (item front)) → IsLawful (listed version own item)
unfolding listed
listed_lawful version own item h = bind_lawful _ _ (tag_lawful own) (λ t. bind_lawful _ _ (count_lawful version own t) (λ n. items_lawful item h n []))

nc_type_lawful : (version : ℕ) → IsLawful (nc_type version)
unfolding nc_type
nc_type_lawful version = bind_lawful _ _ (such_that_lawful _ _ _ (number_lawful 4)) (λ t. gives_lawful _)

numrecs_lawful : (version : ℕ) → IsLawful (numrecs version)
unfolding numrecs
numrecs_lawful version = such_that_lawful _ _ _ (such_that_lawful _ _ _ (number_lawful (width version)))

dim_lawful : (version : ℕ) (seen : Bool) → IsLawful (dim version seen)
unfolding dim
dim_lawful version seen = bind_lawful _ _ (name_lawful version) (λ text. bind_lawful _ _ (such_that_lawful _ _ _ (bounded_lawful version)) (λ len. gives_lawful _))

dim_list_lawful : (version : ℕ) → IsLawful (dim_list version)
unfolding dim_list
dim_list_lawful version = listed_lawful version 10 (next_dim version) (λ front. dim_lawful version (list_any is_record_dim front))

att_lawful : (version : ℕ) → IsLawful (att version)
unfolding att
att_lawful version =
    bind_lawful _ _ (name_lawful version) (λ text. bind_lawful _ _ (nc_type_lawful version) (λ kind. bind_lawful _ _ (bounded_lawful version) (λ count. bind_lawful _ _ (padded_lawful _) (λ values. gives_lawful _))))

att_list_lawful : (version : ℕ) → IsLawful (att_list version)
unfolding att_list
att_list_lawful version = listed_lawful version 12 (λ front. att version) (λ front. att_lawful version)

dim_id_lawful : (version : ℕ) (dims : List NcDim) (is_first : Bool) → IsLawful (dim_id version dims is_first)
unfolding dim_id
dim_id_lawful version dims is_first = such_that_lawful _ _ _ (such_that_lawful _ _ _ (number_lawful (width version)))

dim_ids_lawful : (version : ℕ) (dims : List NcDim) → IsLawful (dim_ids version dims)
unfolding dim_ids
dim_ids_lawful version dims = bind_lawful _ _ (bounded_lawful version) (λ n. items_lawful (next_id version dims) (λ front. dim_id_lawful version dims (eqb (length front) 0)) n [])

var_lawful : (version : ℕ) (dims : List NcDim) → IsLawful (var version dims)
unfolding var
var_lawful version dims =
    bind_lawful _ _ (name_lawful version) (λ text. bind_lawful _ _ (dim_ids_lawful version dims) (λ ids. bind_lawful _ _ (att_list_lawful version) (λ atts. bind_lawful _ _ (nc_type_lawful version) (λ kind.
    bind_lawful _ _ (number_lawful (width version)) (λ vsize. bind_lawful _ _ (number_lawful (begin_width version)) (λ begin. gives_lawful _))))))

var_list_lawful : (version : ℕ) (dims : List NcDim) → IsLawful (var_list version dims)
unfolding var_list
var_list_lawful version dims = listed_lawful version 11 (λ front. var version dims) (λ front. var_lawful version dims)

pub body_lawful : (version : ℕ) → IsLawful (body version)
unfolding body
body_lawful version =
    bind_lawful _ _ (numrecs_lawful version) (λ records. bind_lawful _ _ (dim_list_lawful version) (λ dims. bind_lawful _ _ (att_list_lawful version) (λ atts. bind_lawful _ _ (var_list_lawful version dims) (λ vars. gives_lawful _))))
