-- The definitions at work: specialised and default rows.
use Rattle.std.proofs.Common.{◌≡◌, [], ◌∷◌, Some, None, refl, ap}
use Rattle.rb_core.specs.declared.pattern.Pat.{Wild, out-Pat}
use Rattle.rb_core.specs.declared.pattern.Pat as Pats
use Rattle.rb_core.specs.declared.pattern.Pat.TheVariants as PV
use Rattle.rb_matrix.specs.declared.matrix.Head.TheVariants as H
use Rattle.rb_matrix.specs.Specialize.{special_of_layer, special_row, default_row, special}

-- S keeps the subpatterns of the head's own rows, opens wildcards, and drops the other rows
node-row : special_row (H.Con (record { ty = 1; con = 1 })) 3 (Pats.Con 0 (record { ty = 1; con = 1 }) (Wild 0 ∷ Wild 5 ∷ Wild 6 ∷ []) ∷ Wild 7 ∷ [])
    ≡ Some (Wild 0 ∷ Wild 5 ∷ Wild 6 ∷ Wild 7 ∷ [])
node-row = ap (special_of_layer (H.Con (record { ty = 1; con = 1 })) 3 (Wild 7 ∷ [])) (PV.outs-Con 0 (record { ty = 1; con = 1 }) (Wild 0 ∷ Wild 5 ∷ Wild 6 ∷ []))

leaf-row : special_row (H.Con (record { ty = 1; con = 1 })) 3 (Pats.Con 0 (record { ty = 1; con = 0 }) [] ∷ Wild 7 ∷ []) ≡ None
leaf-row = ap (special_of_layer (H.Con (record { ty = 1; con = 1 })) 3 (Wild 7 ∷ [])) (PV.outs-Con 0 (record { ty = 1; con = 0 }) [])

wild-row : special_row (H.Con (record { ty = 1; con = 1 })) 3 (Wild 4 ∷ Wild 7 ∷ []) ≡ Some (Wild 0 ∷ Wild 0 ∷ Wild 0 ∷ Wild 7 ∷ [])
unfolding out-Pat denote.Hole.Carrier.out
wild-row = refl

number-rows : special (H.Num 3) 0 ((Pats.Num 0 3 ∷ Wild 1 ∷ []) ∷ (Pats.Num 0 4 ∷ Wild 2 ∷ []) ∷ (Wild 9 ∷ Wild 3 ∷ []) ∷ []) ≡ (Wild 1 ∷ []) ∷ (Wild 3 ∷ []) ∷ []
unfolding out-Pat denote.Hole.Carrier.out
number-rows = refl

default-row : default_row (Wild 4 ∷ Wild 7 ∷ []) ≡ Some (Wild 7 ∷ [])
unfolding out-Pat denote.Hole.Carrier.out
default-row = refl

no-default-row : default_row (Pats.Num 0 3 ∷ Wild 7 ∷ []) ≡ None
unfolding out-Pat denote.Hole.Carrier.out
no-default-row = refl
