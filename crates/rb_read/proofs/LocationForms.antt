-- Ranges, paths and locations.
use Rattle.std.proofs.Common.{◌≡◌, ℕ, List, [], ◌∷◌, map, Bool, true, false, is_some, refl}
use Rattle.rb_syntax.specs.declared.token.Symbol.{Symbol}
use Rattle.rb_syntax.specs.declared.token.Symbol.TheVariants as symbol
use Rattle.rb_syntax.specs.declared.token.Token.{Token}
use Rattle.rb_syntax.specs.declared.token.Token.TheVariants as tok
use Rattle.rb_syntax.specs.Written.{Writing, token, each}
use Rattle.rb_syntax.specs.Spelling.{num, range_written, field_written, loc_step_written, loc_written}
use Rattle.rb_read.specs.inner.Starting.{is_symbol}
use Rattle.rb_read.specs.inner.Combining.{pair, expect, each_of}
use Rattle.rb_read.proofs.Open.{Open, one, many, the, a_number, a_field, a_range, into_field, begins, if_so, ahead_of}
use Rattle.rb_read.proofs.Open as open_at
use Rattle.rb_read.specs.inner.Tokens.{number}
use Rattle.rb_read.specs.inner.Reading.{range_rest, range, field_in, more_fields, location, location_of, range_of, step_of}
use Rattle.rb_read.specs.inner.Reading as reading
use Rattle.rb_read.proofs.Forms.{IsForm}
use Rattle.rb_read.proofs.FormLaws.{first-strict, iso-form, into-strict, alias-form}
use Rattle.rb_read.proofs.NodeForms.{IsPart}
use Rattle.rb_read.proofs.TokenForms.{symbol-part, number-part, field-part}
use Rattle.rb_read.proofs.TypeForms.{before-any}
use Rattle.rb_read.proofs.ListForms.{each-form}

-- a part of the grammar that begins with a symbol, and with nothing else
pub by_symbol : (s : Symbol) (os : List Open) (t : Token) → if_so (is_symbol s t) os ≡ ahead_of os (if_so (is_symbol s t) [])
by_symbol s os t = by_test (is_symbol s t) where
  by_test : (b : Bool) → if_so b os ≡ ahead_of os (if_so b [])
  by_test true = refl
  by_test false = refl

pub is_so : (b : Bool) (os : List Open) → is_some (if_so b os) ≡ b
is_so true os = refl
is_so false os = refl

abbrev pub range_rest_written : ℕ × ℕ → Writing
range_rest_written r rest = num r.0 ∷ token (tok.Symbol symbol.Colon) ∷ num r.1 ∷ token (tok.Symbol symbol.CloseBracket) ∷ rest

pub range_rest-form : (total limit : ℕ) → IsForm total limit (λ _. false) open_at.range_rest range_rest_written range_rest
unfolding range_rest
range_rest-form total limit = iso-form range_of (λ r. (r.0, (tt, (r.1, tt)))) (λ r. refl) (λ p rest. refl)
    (before-any (number-part total limit).form
    (before-any (symbol-part total limit symbol.Colon).form
    (before-any (number-part total limit).form (symbol-part total limit symbol.CloseBracket).form)))

pub range-part : (total limit : ℕ) → IsPart total limit (λ _. false) a_range (λ r rest. range_written r.0 r.1 rest) range
unfolding begins range
range-part total limit = record {
  form = alias-form (λ t. by_symbol symbol.OpenBracket open_at.range_rest t) (iso-form (λ p. p.1) (λ r. (tt, r)) (λ r. refl) (λ p rest. refl)
      (before-any (symbol-part total limit symbol.OpenBracket).form (range_rest-form total limit)));
  strict = into-strict _ _ (first-strict (symbol-part total limit symbol.OpenBracket).form (range_rest-form total limit) (symbol-part total limit symbol.OpenBracket).strict);
}

pub field_in-part : (total limit : ℕ) → IsPart total limit (λ _. false) into_field field_written field_in
unfolding begins field_in
field_in-part total limit = record {
  form = alias-form (λ t. by_symbol symbol.Dot (one a_field ∷ []) t) (iso-form (λ p. p.1) (λ n. (tt, n)) (λ n. refl) (λ p rest. refl)
      (before-any (symbol-part total limit symbol.Dot).form (field-part total limit).form));
  strict = into-strict _ _ (first-strict (symbol-part total limit symbol.Dot).form (field-part total limit).form (symbol-part total limit symbol.Dot).strict);
}

abbrev pub opens_dot : Token → Bool
opens_dot t = is_symbol symbol.Dot t

pub more_fields-form : (total limit : ℕ) → IsForm total limit opens_dot (many into_field ∷ []) (λ fs rest. each (map field_written fs) rest) more_fields
unfolding begins more_fields
more_fields-form total limit = each-form (field_in-part total limit) opens_dot (λ t. is_so (is_symbol symbol.Dot t) _) (λ t. refl)

abbrev pub opens_arrow : Token → Bool
opens_arrow t = is_symbol symbol.Arrow t

-- a step behind its arrow
abbrev step_rest_written : ℕ × (Unit {0} × (ℕ × (Unit {0} × (ℕ × (ℕ × ℕ))))) → Writing
step_rest_written (align, (_, (byte, (_, (width, (first, bits)))))) rest = num align ∷ token (tok.Symbol symbol.At)
    ∷ num byte ∷ token (tok.Symbol symbol.Colon) ∷ num width ∷ range_written first bits rest

pub loc_step-part : (total limit : ℕ) → IsPart total limit (λ _. false) open_at.loc_step loc_step_written reading.loc_step
unfolding begins reading.loc_step
loc_step-part total limit = record {
  form = alias-form (λ t. by_symbol symbol.Arrow _ t) (iso-form step_of
      (λ s. (tt, (s.align, (tt, (s.byte, (tt, (s.width, (s.o, s.l)))))))) (λ s. refl) (λ p rest. refl)
      (before-any (symbol-part total limit symbol.Arrow).form behind));
  strict = into-strict _ _ (first-strict (symbol-part total limit symbol.Arrow).form behind (symbol-part total limit symbol.Arrow).strict);
} where
  behind : IsForm total limit (λ _. false) (one a_number ∷ one (the symbol.At) ∷ one a_number ∷ one (the symbol.Colon) ∷ one a_number ∷ one a_range ∷ [])
      step_rest_written
      (pair number (pair (expect symbol.At) (pair number (pair (expect symbol.Colon) (pair number range)))))
  behind =
      before-any (number-part total limit).form
      (before-any (symbol-part total limit symbol.At).form
      (before-any (number-part total limit).form
      (before-any (symbol-part total limit symbol.Colon).form
      (before-any (number-part total limit).form (range-part total limit).form))))

pub location-form : (total limit : ℕ) → IsForm total limit opens_arrow (one a_number ∷ one a_range ∷ many open_at.loc_step ∷ []) loc_written location
unfolding begins location
location-form total limit = iso-form location_of (λ x. (x.word, ((x.o, x.l), x.steps))) (λ x. refl) (λ p rest. refl)
    (before-any (number-part total limit).form (before-any (range-part total limit).form steps)) where
      steps : IsForm total limit opens_arrow (many open_at.loc_step ∷ []) (λ ss rest. each (map loc_step_written ss) rest) (each_of opens_arrow reading.loc_step)
      steps = each-form (loc_step-part total limit) opens_arrow (λ t. is_so (is_symbol symbol.Arrow t) _) (λ t. refl)
