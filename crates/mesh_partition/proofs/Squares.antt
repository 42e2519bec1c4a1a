-- The six faces of the smallest cubed sphere, by their nodes and by their planes.
use Rattle.std.proofs.Common.{◌≡◌, ℕ, zero, suc, ◌<◌, pos, negsuc, ◌≤ℤ◌, ◌<ℤ◌, List, [], ◌∷◌, length, arith, refl, sym, subst, lit<, lit≤}
use Rattle.vec_exact.specs.declared.Vec3.{Vec3}
use Rattle.vec_exact.specs.declared.panels.Panel.{Panel}
use Rattle.vec_exact.specs.declared.panels.Panel.TheVariants.{PlusX, PlusY, MinusX, MinusY, PlusZ, MinusZ}
use Rattle.vec_exact.specs.Vector.{inner}
use Rattle.vec_exact.specs.Cycle.{after, vector_at, face_plane}
use Rattle.cone_laws.specs.Inside.{IsInside, IsInClosure}
use Rattle.mesh_check.specs.Mesh.{corners_of}
use Rattle.gen_cs.specs.CubedSphere.{cubed_sphere, nodes_of, face_at}
use Rattle.gen_cs.proofs.AcceptedFaces.{face_is_square}
use Rattle.gen_cs.proofs.Squares.{panel_square}
use Rattle.mesh_partition.proofs.Panels.{panel, IsInsidePlanes, IsWithinPlanes}

-- the panel of face p + 1
abbrev panel_of_face : ℕ → Panel
panel_of_face zero = PlusX
panel_of_face (suc zero) = PlusY
panel_of_face (suc (suc zero)) = MinusX
panel_of_face (suc (suc (suc zero))) = MinusY
panel_of_face (suc (suc (suc (suc zero)))) = PlusZ
panel_of_face (suc (suc (suc (suc (suc p))))) = MinusZ

-- its nodes
abbrev pub square : ℕ → List Vec3
square p = panel_square (panel_of_face p) (pos 1) (negsuc 0) (negsuc 0)

-- its edge planes
plane_at : (p t : ℕ) → t < 4 → face_plane (square p) t ≡ vector_at (panel p) t
unfolding after
plane_at zero zero l = refl
plane_at zero (suc zero) l = refl
plane_at zero (suc (suc zero)) l = refl
plane_at zero (suc (suc (suc zero))) l = refl
plane_at zero (suc (suc (suc (suc t)))) l = absurd (omega arith)
plane_at (suc zero) zero l = refl
plane_at (suc zero) (suc zero) l = refl
plane_at (suc zero) (suc (suc zero)) l = refl
plane_at (suc zero) (suc (suc (suc zero))) l = refl
plane_at (suc zero) (suc (suc (suc (suc t)))) l = absurd (omega arith)
plane_at (suc (suc zero)) zero l = refl
plane_at (suc (suc zero)) (suc zero) l = refl
plane_at (suc (suc zero)) (suc (suc zero)) l = refl
plane_at (suc (suc zero)) (suc (suc (suc zero))) l = refl
plane_at (suc (suc zero)) (suc (suc (suc (suc t)))) l = absurd (omega arith)
plane_at (suc (suc (suc zero))) zero l = refl
plane_at (suc (suc (suc zero))) (suc zero) l = refl
plane_at (suc (suc (suc zero))) (suc (suc zero)) l = refl
plane_at (suc (suc (suc zero))) (suc (suc (suc zero))) l = refl
plane_at (suc (suc (suc zero))) (suc (suc (suc (suc t)))) l = absurd (omega arith)
plane_at (suc (suc (suc (suc zero)))) zero l = refl
plane_at (suc (suc (suc (suc zero)))) (suc zero) l = refl
plane_at (suc (suc (suc (suc zero)))) (suc (suc zero)) l = refl
plane_at (suc (suc (suc (suc zero)))) (suc (suc (suc zero))) l = refl
plane_at (suc (suc (suc (suc zero)))) (suc (suc (suc (suc t)))) l = absurd (omega arith)
plane_at (suc (suc (suc (suc (suc p))))) zero l = refl
plane_at (suc (suc (suc (suc (suc p))))) (suc zero) l = refl
plane_at (suc (suc (suc (suc (suc p))))) (suc (suc zero)) l = refl
plane_at (suc (suc (suc (suc (suc p))))) (suc (suc (suc zero))) l = refl
plane_at (suc (suc (suc (suc (suc p))))) (suc (suc (suc (suc t)))) l = absurd (omega arith)

pub length-panel : (p : ℕ) → length (panel p) ≡ 4
length-panel zero = refl
length-panel (suc zero) = refl
length-panel (suc (suc zero)) = refl
length-panel (suc (suc (suc zero))) = refl
length-panel (suc (suc (suc (suc zero)))) = refl
length-panel (suc (suc (suc (suc (suc p))))) = refl

-- by nodes and by planes it is the same set of directions
pub inside_square : (p : ℕ) (d : Vec3) → IsInsidePlanes (panel p) d → IsInside (square p) d
inside_square p d i t l = subst (λ (n : Vec3). pos 0 <ℤ inner n d) (sym (plane_at p t l)) (i t (omega (arith, length-panel p)))

pub in_closure_square : (p : ℕ) (d : Vec3) → IsWithinPlanes (panel p) d → IsInClosure (square p) d
in_closure_square p d i t l = subst (λ (n : Vec3). pos 0 ≤ℤ inner n d) (sym (plane_at p t l)) (i t (omega (arith, length-panel p)))

-- face p + 1 of the smallest cubed sphere
face_is : (panel : Panel) → corners_of (record { nodes = nodes_of 1; faces = face_at (nodes_of 1) 1 panel 0 0 ∷ [] }) 1 ≡ panel_square panel (pos 1) (negsuc 0) (negsuc 0)
face_is panel = face_is_square 1 panel 0 0 (lit≤ tt) (lit< tt) (lit< tt)

pub face_is_six : (p : ℕ) → p < 6 → corners_of (cubed_sphere 1) (suc p) ≡ square p
unfolding cubed_sphere
face_is_six zero l = face_is PlusX
face_is_six (suc zero) l = face_is PlusY
face_is_six (suc (suc zero)) l = face_is MinusX
face_is_six (suc (suc (suc zero))) l = face_is MinusY
face_is_six (suc (suc (suc (suc zero)))) l = face_is PlusZ
face_is_six (suc (suc (suc (suc (suc zero))))) l = face_is MinusZ
face_is_six (suc (suc (suc (suc (suc (suc p)))))) l = absurd (omega arith)
