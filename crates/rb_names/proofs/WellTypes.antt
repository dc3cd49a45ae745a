-- Types of a file that was read are well numbered.
use Rattle.std.proofs.Common.{◌≡◌, ℕ, ◌<◌, List, ◌∷◌, length, Bool, true, false, nat_lt, Some, Ok, refl, arith}
use Rattle.std.proofs.lemmas.Grind.{common_steps}
use Rattle.rb_core.specs.declared.types.Ty.{Ty}
use Rattle.rb_core.specs.declared.types.Ty.TheVariants as core_ty
use Rattle.rb_core.specs.declared.types.DataDecl.{DataDecl}
use Rattle.rb_core.specs.WellNumbered.{is_between, is_type}
use Rattle.rb_syntax.specs.declared.token.Token.TheVariants as tok
use Rattle.rb_syntax.specs.declared.tree.TyTree.{TyTree}
use Rattle.rb_syntax.specs.declared.tree.TyTree.TheVariants as ty
use Rattle.rb_syntax.specs.Written.{Written, token, tokens_in, flaw_unless}
use Rattle.rb_syntax.specs.Spelling.{is_uint_width, ty_written}
use Rattle.rb_names.specs.declared.tables.Tables.{Tables}
use Rattle.rb_names.specs.Tables.{Name, meaning}
use Rattle.rb_names.specs.Numbering.{name_found, numbered_type}
use Rattle.rb_names.proofs.Rising.{Right}
use Rattle.rb_names.proofs.Inverting.{then-ok, known-ok, ok-is}

-- what stands behind a test that passed
pub checked-right : (total : ℕ) (b : Bool) (rest : List Written) → Right total (flaw_unless b rest) → (b ≡ true) × Right total rest
checked-right total true rest r = (refl, r)
checked-right total false rest r = absurd r.formed

width-between : (bits : ℕ) → is_uint_width bits ≡ true → is_between 1 64 bits ≡ true
width-between bits h = grind (arith, common_steps, h)

module _ (total : ℕ) (types : List DataDecl) (t : Tables)
    (known_type : (name : Name) (n : ℕ) → meaning t.types name ≡ Some n → nat_lt n (length types) ≡ true) where
  pub record TypeWell (x : TyTree) (rest : List Written) : Type 0 where
    pub right : Right total rest
    pub shorter : length (tokens_in rest) < length (tokens_in (ty_written x rest))
    pub well : (u : Ty) → numbered_type t x ≡ Ok u → is_type types u ≡ true

  -- a type that is numbered is one of the program
  pub type-well : (x : TyTree) (rest : List Written) → Right total (ty_written x rest) → TypeWell x rest
  type-well (ty.Int bits) rest r =
      let c = checked-right total (is_uint_width bits) (token (tok.Uint bits) ∷ rest) r in record {
        right = record { formed = c.1.formed; numbers = c.1.numbers; fits = omega (arith, c.1.fits) };
        shorter = rw (c.0) (omega arith);
        well = λ u e. rw (← ok-is (core_ty.Int bits) u e) (width-between bits c.0);
      }
  type-well (ty.Named name) rest r = record {
    right = record { formed = r.formed; numbers = r.numbers.1; fits = omega (arith, r.fits) };
    shorter = omega arith;
    well = λ u e.
        let k = then-ok (name_found name (meaning t.types name.text)) _ u e in
        rw (← ok-is (core_ty.Named k.0) u k.2) (known_type name.text k.0 (known-ok name _ k.0 k.1));
  }
