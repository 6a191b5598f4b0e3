-- A machine whose steps are ruled by another: runs of the one are runs of the other.
use Rattle.std.specs.Prelude.{◌≡◌, ℕ, List, [], ◌∷◌, ◌++◌, Some, None, Option, refl}
use Rattle.std.proofs.Common.{sym, ◌∙◌, ap, subst}
use Rattle.forms.specs.Runs.{carried_out, listed_from, onward, ruled, run}

-- a ruled step that leads somewhere leads where it should, and the rules allow it
pub ruled_some : {S T : Type 0} (answer : Option T) (u w : S) → ruled answer u ≡ Some w → (v : T) × (answer ≡ Some v) × (w ≡ u)
ruled_some None u w h = absurd cc
ruled_some (Some v) u w h = (v, refl, cc)

module _ {S T : Type 0} (rules : S → T → ℕ → Option T) (shown : S → T) (after : S → ℕ → S) where
  abbrev step : S → ℕ → Option S
  step s c = ruled (rules s (shown s) c) (after s c)

  -- what no step changes, no run changes
  pub run_keeps : {A : Type 0} (view : S → A) → ((s : S) (c : ℕ) → view (after s c) ≡ view s)
      → (cs : List ℕ) (s u : S) → run step s cs ≡ Some u → view u ≡ view s
  run_keeps view stable [] s u h = let e : u ≡ s = cc in ap view e
  run_keeps view stable (c ∷ cs) s u h = go (step s c) refl h (λ w. run_keeps view stable cs w u)
    where
      go : (r : Option S) → step s c ≡ r → onward r (λ w. run step w cs) ≡ Some u
          → ((w : S) → run step w cs ≡ Some u → view u ≡ view w) → view u ≡ view s
      go None a b rest = absurd cc
      go (Some w) a b rest =
          let e = ruled_some (rules s (shown s) c) (after s c) w a in
          rest w b ∙ ap view e.2 ∙ stable s c

  module _ (Good : S → Type 0) (same : (s : S) (c : ℕ) → rules (after s c) ≡ rules s)
      (shows : (s : S) (c : ℕ) (v : T) → Good s → rules s (shown s) c ≡ Some v → (shown (after s c) ≡ v) × Good (after s c)) where
    -- a run shows a run by the rules
    pub run_forth : (cs : List ℕ) (s u : S) → Good s → run step s cs ≡ Some u → run (rules s) (shown s) cs ≡ Some (shown u)
    run_forth [] s u good h = let e : s ≡ u = cc in ap (λ w. Some (shown w)) e
    run_forth (c ∷ cs) s u good h = go (rules s (shown s) c) refl h (run_forth cs (after s c) u)
      where
        go : (r : Option T) → rules s (shown s) c ≡ r → onward (ruled r (after s c)) (λ w. run step w cs) ≡ Some u
            → (Good (after s c) → run step (after s c) cs ≡ Some u → run (rules (after s c)) (shown (after s c)) cs ≡ Some (shown u))
            → onward r (λ v. run (rules s) v cs) ≡ Some (shown u)
        go None a b rest = absurd cc
        go (Some v) a b rest =
            let m = shows s c v good a in
            let k = rest m.1 b in
            let k₂ : run (rules s) (shown (after s c)) cs ≡ Some (shown u) = subst (λ r. run r (shown (after s c)) cs ≡ Some (shown u)) (same s c) k in
            subst (λ w. run (rules s) w cs ≡ Some (shown u)) m.0 k₂

    -- a run by the rules is shown by a run
    pub run_back : (cs : List ℕ) (s : S) (v : T) → Good s → run (rules s) (shown s) cs ≡ Some v → (u : S) × (run step s cs ≡ Some u) × (shown u ≡ v)
    run_back [] s v good h = (s, refl, let e : shown s ≡ v = cc in e)
    run_back (c ∷ cs) s v good h = go (rules s (shown s) c) refl h (run_back cs (after s c) v)
      where
        go : (r : Option T) → rules s (shown s) c ≡ r → onward r (λ w. run (rules s) w cs) ≡ Some v
            → (Good (after s c) → run (rules (after s c)) (shown (after s c)) cs ≡ Some v → (u : S) × (run step (after s c) cs ≡ Some u) × (shown u ≡ v))
            → (u : S) × (onward (ruled r (after s c)) (λ w. run step w cs) ≡ Some u) × (shown u ≡ v)
        go None a b rest = absurd cc
        go (Some w) a b rest =
            let m = shows s c w good a in
            let b₂ : run (rules s) (shown (after s c)) cs ≡ Some v = subst (λ x. run (rules s) x cs ≡ Some v) (sym m.0) b in
            let b₃ : run (rules (after s c)) (shown (after s c)) cs ≡ Some v = subst (λ r. run r (shown (after s c)) cs ≡ Some v) (sym (same s c)) b₂ in
            rest m.1 b₃

    -- and both carry out the same entries
    pub carried_alike : (carries : S → T → ℕ → List ℕ) → ((s : S) (c : ℕ) → carries (after s c) ≡ carries s) → (cs : List ℕ) (s : S) → Good s
        → carried_out step (λ w c. carries w (shown w) c) s cs ≡ carried_out (rules s) (carries s) (shown s) cs
    carried_alike carries alike [] s good = refl
    carried_alike carries alike (c ∷ cs) s good = ap (λ l. carries s (shown s) c ++ l) (go (rules s (shown s) c) refl (carried_alike carries alike cs (after s c)))
      where
        go : (r : Option T) → rules s (shown s) c ≡ r
            → (Good (after s c) → carried_out step (λ w c. carries w (shown w) c) (after s c) cs
            ≡ carried_out (rules (after s c)) (carries (after s c)) (shown (after s c)) cs)
            → listed_from (ruled r (after s c)) (λ u. carried_out step (λ w c. carries w (shown w) c) u cs)
            ≡ listed_from r (λ v. carried_out (rules s) (carries s) v cs)
        go None a rest = refl
        go (Some v) a rest =
            let m = shows s c v good a in
            let k = rest m.1 in
            k ∙ ap (λ r. carried_out r (carries (after s c)) (shown (after s c)) cs) (same s c)
            ∙ ap (λ l. carried_out (rules s) l (shown (after s c)) cs) (alike s c)
            ∙ ap (λ w. carried_out (rules s) (carries s) w cs) m.0
