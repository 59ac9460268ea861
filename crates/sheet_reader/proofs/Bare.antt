-- Parts are judged by the place, the rule and the body bytes of their record, and nothing else of it.
use Prim.Native.Nat.{ℕ, zero, suc, ◌+◌}
use mathlib.Core.Path.{◌≡◌, refl}
use mathlib.Core.List.{List}
use Rattle.sheet_heads.specs.Bare.{bare}
use Rattle.sheet_parts.specs.Rule.{accepts_part}
use Rattle.sheet_records.specs.declared.kind.Rule.{Rule}
use Rattle.sheet_records.specs.declared.kind.Rule.TheVariants.{Skip, Diverge, Truth, Number, Use, Fetch, Operate, Assign}
use Rattle.sheet_records.specs.declared.kind.Rule.TheVariants.{Sequence, If, While, New, Procedure}
use Rattle.sheet_heads.specs.declared.head.Record.{Record}
use Rattle.sheet_reader.specs.Reader.{Tree, Answer, got, refused, bind, parts_of}

-- what of a record its parts are judged by
abbrev pub core : Record → Record
core r = bare r.place r.rule r.a r.b

accepts-core :
    (R : Rule) (s : List ℕ) (r : Record) (j prev ty : ℕ) →
    accepts_part R s (core r) j prev ty ≡ accepts_part R s r j prev ty
unfolding accepts_part bare
accepts-core Skip s r j prev ty = refl
accepts-core Diverge s r j prev ty = refl
accepts-core Truth s r j prev ty = refl
accepts-core Number s r j prev ty = refl
accepts-core Use s r j prev ty = refl
accepts-core Fetch s r j prev ty = refl
accepts-core Operate s r j prev ty = refl
accepts-core Assign s r j prev ty = refl
accepts-core Sequence s r j prev ty = refl
accepts-core If s r j prev ty = refl
accepts-core While s r j prev ty = refl
accepts-core New s r j prev ty = refl
accepts-core Procedure s r j prev ty = refl

bind-same :
    {X Y : Type 0} (A : Answer X) (k l : X → ℕ → ℕ → Answer Y) →
    ((x : X) (ty next : ℕ) → k x ty next ≡ l x ty next) → bind A k ≡ bind A l
unfolding bind
bind-same (got x ty next) k l f = f x ty next
bind-same (refused n p) k l f = refl

pub parts-core :
    (rec : ℕ → Answer Tree) (s : List ℕ) (r : Record) (n j prev at : ℕ) →
    parts_of rec s (core r) n j prev at ≡ parts_of rec s r n j prev at
unfolding parts_of bare
parts-core rec s r zero j prev at = refl
parts-core rec s r (suc n) j prev at =
    bind-same (rec at) _ _ (λ t ty next.
    rw (accepts-core r.rule s r j prev ty, parts-core rec s r n (j + 1) ty next))
