-- Triples of whole numbers, and their products.
use Rattle.vec_exact.specs.declared.Vec3.{Vec3}
use Rattle.std.specs.Prelude.{ℤ, pos, ◌+ℤ◌, ◌-ℤ◌, ◌*ℤ◌}

-- the zero triple
abbrev pub zero_triple : Vec3
zero_triple = record { x = pos 0; y = pos 0; z = pos 0 }

-- the inner product, a . b
abbrev pub inner : Vec3 → Vec3 → ℤ
inner a b = a.x *ℤ b.x +ℤ a.y *ℤ b.y +ℤ a.z *ℤ b.z

-- the cross product, a x b
abbrev pub cross : Vec3 → Vec3 → Vec3
cross a b = record { x = a.y *ℤ b.z -ℤ a.z *ℤ b.y; y = a.z *ℤ b.x -ℤ a.x *ℤ b.z; z = a.x *ℤ b.y -ℤ a.y *ℤ b.x }

-- the determinant, a . (b x c)
abbrev pub det : Vec3 → Vec3 → Vec3 → ℤ
det a b c = inner a (cross b c)

-- k times a
abbrev pub scaled : ℤ → Vec3 → Vec3
scaled k a = record { x = k *ℤ a.x; y = k *ℤ a.y; z = k *ℤ a.z }

-- a + b
abbrev pub added : Vec3 → Vec3 → Vec3
added a b = record { x = a.x +ℤ b.x; y = a.y +ℤ b.y; z = a.z +ℤ b.z }
