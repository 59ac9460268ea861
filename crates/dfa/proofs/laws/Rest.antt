-- The front of the words and the graph behind it. Assumes nothing.
use mathlib.Core.List.{List, ◌++◌}
use mathlib.Core.Path.{◌∙◌, ◌≡◌, ap, subst, sym}
use Prim.Native.Nat.{◌+◌, ◌-◌, ◌<◌, ◌≤◌, ℕ}
use native.Mathlib.Omega.{arith}
use lib.ListN.{drop, get_or, length, length-append, length-drop, take}
use lib.Seq.{drop_at, get_or-drop, get_or-take, length-take-le, take_all, take_at}
use Rattle.dfa.specs.Graph.{rest}

pub rest-is : (g : ℕ) (ws : List ℕ) → rest g ws ≡ drop g ws
rest-is g ws = take_all (length ws - g) (drop g ws) (omega (arith, length-drop g ws))

pub rest-length : (g : ℕ) (ws : List ℕ) → length (rest g ws) ≡ length ws - g
rest-length g ws = ap length (rest-is g ws) ∙ length-drop g ws

-- a place of the front is a place of the whole
pub front_at : (g : ℕ) (ws : List ℕ) (i v : ℕ) → i < g → v ≡ get_or ws i 0 → v ≡ get_or (take g ws) i 0
front_at g ws i v h e = e ∙ sym (get_or-take g ws i 0 h)

-- the front has come back at ys
module _ (g : ℕ) (ws ys : List ℕ) (room : g ≤ length ws) (len : length ys ≡ length (take g ws)) where
  ys-len : length ys ≡ g
  ys-len = len ∙ length-take-le g ws room

  pub back-length : length (ys ++ drop g ws) ≡ length ws
  back-length = rw (length-append, length-drop) (omega (arith, ys-len))

  back-drop : drop g (ys ++ drop g ws) ≡ drop g ws
  back-drop = drop_at ys (drop g ws) g ys-len

  pub back-rest : rest g (ys ++ drop g ws) ≡ rest g ws
  back-rest = rest-is g (ys ++ drop g ws) ∙ back-drop ∙ sym (rest-is g ws)

  back-take : take g (ys ++ drop g ws) ≡ ys
  back-take = take_at ys (drop g ws) g ys-len

  pub back : (P : List ℕ → List ℕ → Type 0) → P (rest g ws) ys → P (rest g (ys ++ drop g ws))
      (take g (ys ++ drop g ws))
  back P h = subst (λ v. P v (take g (ys ++ drop g ws))) (sym back-rest) (subst (λ v. P (rest g ws) v)
      (sym back-take) h)

-- a place of the graph is a place of the words
pub rest_at : (g : ℕ) (ws : List ℕ) (i : ℕ) → get_or (rest g ws) i 0 ≡ get_or ws (g + i) 0
rest_at g ws i = ap (λ l. get_or l i 0) (rest-is g ws) ∙ get_or-drop g ws i 0
