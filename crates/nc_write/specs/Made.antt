-- Documents whose numbers are made while they are written: each list of them stands for another. Source: this project's
-- own.
use Rattle.std.specs.Prelude.{ℤ, List, map}
use Rattle.nc_write.specs.declared.Values.{Values}
use Rattle.nc_write.specs.declared.Values.TheVariants.{Byte, Int, Long}
use Rattle.nc_write.specs.declared.DocVar.{DocVar}
use Rattle.nc_write.specs.declared.NcDoc.{NcDoc}

-- what the lists of a document stand for
pub record Made : Type 0 where
  -- for a list of numbers of 32 bits
  pub ints : List ℤ → List ℤ
  -- for a list of numbers of 64 bits
  pub longs : List ℤ → List ℤ

-- each list stands for itself
abbrev pub listed : Made
listed = record { ints = λ zs. zs; longs = λ zs. zs }

-- every list of a type stands for the same one
abbrev pub of_lists : List ℤ → List ℤ → Made
of_lists ints longs = record { ints = λ _. ints; longs = λ _. longs }

-- the values, with the list that theirs stands for
abbrev pub made_values : Made → Values → Values
made_values made (Byte zs) = Byte zs
made_values made (Int zs) = Int (made.ints zs)
made_values made (Long zs) = Long (made.longs zs)

abbrev pub made_var : Made → DocVar → DocVar
made_var made v = record { name = v.name; dims = v.dims; values = made_values made v.values }

-- the document that is written
abbrev pub made_doc : Made → NcDoc → NcDoc
made_doc made doc =
    record { records = doc.records; dims = doc.dims; atts = doc.atts; vars = map (made_var made) doc.vars }
