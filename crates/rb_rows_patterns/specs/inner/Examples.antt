-- Types for examples: colours, trees of colours, pairs of both, and six bits. They stand here, and not in proofs, since
-- clauses of the rows cite them.
use Rattle.std.specs.Prelude.{ℕ, List, [], ◌∷◌}
use Rattle.rb_core.specs.declared.types.Con.{Con}
use Rattle.rb_core.specs.declared.types.DataDecl.{DataDecl}
use Rattle.rb_core.specs.declared.types.Ty.{Ty}
use Rattle.rb_core.specs.declared.types.Ty.TheVariants.{Int, Named}

-- the constructor whose name is this letter, with fields of these types
abbrev pub con_of : ℕ → List Ty → Con
con_of letter fields = record { name = letter ∷ []; fields = fields }

-- type C = R | G | B
abbrev pub color_decl : DataDecl
color_decl = record { name = 67 ∷ []; cons = con_of 82 [] ∷ con_of 71 [] ∷ con_of 66 [] ∷ [] }

-- type T = L | N(T, C, T)
abbrev pub tree_decl : DataDecl
tree_decl = record { name = 84 ∷ []; cons = con_of 76 [] ∷ con_of 78 (Named 1 ∷ Named 0 ∷ Named 1 ∷ []) ∷ [] }

-- type P = P(C, T)
abbrev pub pair_decl : DataDecl
pair_decl = record { name = 80 ∷ []; cons = con_of 80 (Named 0 ∷ Named 1 ∷ []) ∷ [] }

-- type S = S(u1, u1, u1, u1, u1, u1)
abbrev pub six_decl : DataDecl
six_decl = record { name = 83 ∷ []; cons = con_of 83 (Int 1 ∷ Int 1 ∷ Int 1 ∷ Int 1 ∷ Int 1 ∷ Int 1 ∷ []) ∷ [] }

-- the types of the examples: C, T, P and S have the numbers 0 to 3
abbrev pub example_types : List DataDecl
example_types = color_decl ∷ tree_decl ∷ pair_decl ∷ six_decl ∷ []
