-- Routes by payload type, one call more.
use Rattle.std.proofs.Common.{◌≡◌, ◌||◌, ℕ, Bool, true, false, cond, nat_eq, List, [], ◌∷◌, ◌++◌, Option, Some, None, refl, sym, ap, subst, ◌∙◌, arith}
use Rattle.std.specs.Prelude.{option_map, is_some}
use Rattle.std.specs.Option.{option_or}
use Rattle.std.specs.Map.{lookup}
use Rattle.std.proofs.lemmas.Bool.{eqb-true}
use Rattle.std.proofs.lemmas.Bool.Decides.{nat_tests}
use Rattle.rtp_demux.specs.declared.types.Route.{Route}
use Rattle.rtp_demux.specs.Types.{rate_of, was_routed, route, StandsFor}

abbrev with : List ℕ → ℕ → Option ℕ → Option Route
with calls pt rate = option_map (λ r. route r (was_routed calls pt)) rate

-- a call of another type, or of one that has no rate or was routed before, changes nothing
unchanged_by : (b : Bool) (calls : List ℕ) (q : ℕ) (rate : Option ℕ) → (b ≡ true → with calls q rate ≡ option_map (λ r. route r true) rate)
    → with calls q rate ≡ option_map (λ r. route r (b || was_routed calls q)) rate
unchanged_by true calls q rate h = h refl
unchanged_by false calls q rate h = refl

pub stays : (routes : List (ℕ × Route)) (rates : List (ℕ × ℕ)) (calls : List ℕ) (pt : ℕ) → StandsFor routes rates calls
    → with calls pt (rate_of rates pt) ≡ option_map (λ r. route r true) (rate_of rates pt) → StandsFor routes rates (pt ∷ calls)
stays routes rates calls pt stands same = λ q.
    stands q ∙ unchanged_by (nat_eq q pt) calls q (rate_of rates q) (λ e. subst (λ (x : ℕ). with calls x (rate_of rates x) ≡ option_map (λ r. route r true) (rate_of rates x)) (sym (eqb-true q pt e)) same)

-- the first call of a type marks it
marked_by : (b : Bool) (calls : List ℕ) (q rate : ℕ) (other : Option ℕ) (old : Option Route) → (b ≡ true → other ≡ Some rate) → old ≡ with calls q other
    → cond b (Some (route rate true)) old ≡ option_map (λ r. route r (b || was_routed calls q)) other
marked_by true calls q rate other old h e = sym (ap (option_map (λ r. route r true)) (h refl))
marked_by false calls q rate other old h e = e

turned : (a b : ℕ) → nat_eq a b ≡ nat_eq b a
turned a b = grind (arith, nat_tests)

pub marks : (old new : List (ℕ × Route)) (rates : List (ℕ × ℕ)) (calls : List ℕ) (pt rate : ℕ) → StandsFor old rates calls → rate_of rates pt ≡ Some rate
    → ((q : ℕ) → lookup (nat_eq q) new ≡ cond (nat_eq pt q) (Some (route rate true)) (lookup (nat_eq q) old)) → StandsFor new rates (pt ∷ calls)
marks old new rates calls pt rate stands some put = λ q.
    put q ∙ ap (λ (b : Bool). cond b (Some (route rate true)) (lookup (nat_eq q) old)) (turned pt q)
    ∙ marked_by (nat_eq q pt) calls q rate (rate_of rates q) (lookup (nat_eq q) old) (λ e. ap (rate_of rates) (eqb-true q pt e) ∙ some) (stands q)

-- what is kept of a type tells its rate and whether it was routed
pub none_is : (rate : Option ℕ) (routed : Bool) → None ≡ option_map (λ r. route r routed) rate → rate ≡ None
none_is None routed e = refl
none_is (Some r) routed e = absurd cc

pub some_is : (rate : Option ℕ) (routed : Bool) (kept : Route) → Some kept ≡ option_map (λ r. route r routed) rate → (rate ≡ Some kept.rate) × (routed ≡ kept.routed)
some_is None routed kept e = absurd cc
some_is (Some r) routed kept e =
    let same : kept ≡ route r routed = cc in
    (sym (ap (λ (k : Route). Some k.rate) same), sym (ap (λ (k : Route). k.routed) same))

-- ---- the rates that are put in, one more

or_by : (b : Bool) (v : ℕ) (rest all more : Option ℕ) → all ≡ option_or rest more → cond b (Some v) all ≡ option_or (cond b (Some v) rest) more
or_by true v rest all more e = refl
or_by false v rest all more e = e

push_at : (es : List (ℕ × ℕ)) (e : ℕ × ℕ) (q : ℕ) → rate_of (es ++ e ∷ []) q ≡ option_or (rate_of es q) (cond (nat_eq q e.0) (Some e.1) None)
push_at [] e q = refl
push_at (f ∷ es) e q = or_by (nat_eq q f.0) f.1 (rate_of es q) (rate_of (es ++ e ∷ []) q) (cond (nat_eq q e.0) (Some e.1) None) (push_at es e q)

or_none : (o : Option ℕ) → option_or o None ≡ o
or_none None = refl
or_none (Some x) = refl

known_by : (b : Bool) (v w : ℕ) (o : Option ℕ) → (b ≡ true → o ≡ Some v) → option_or o (cond b (Some w) None) ≡ o
known_by true v w o h = ap (λ (x : Option ℕ). option_or x (Some w)) (h refl) ∙ sym (h refl)
known_by false v w o h = or_none o

new_by : (b : Bool) (w : ℕ) (o : Option ℕ) → (b ≡ true → o ≡ None) → option_or o (cond b (Some w) None) ≡ cond b (Some w) o
new_by true w o h = ap (λ (x : Option ℕ). option_or x (Some w)) (h refl)
new_by false w o h = or_none o

fresh_by : (b : Bool) (w : ℕ) (o : Option ℕ) → option_map (λ r. route r false) (cond b (Some w) o) ≡ cond b (Some (route w false)) (option_map (λ r. route r false) o)
fresh_by true w o = refl
fresh_by false w o = refl

-- a type that stands among the rates before
pub again : (es : List (ℕ × ℕ)) (e : ℕ × ℕ) (v q : ℕ) → rate_of es e.0 ≡ Some v → rate_of (es ++ e ∷ []) q ≡ rate_of es q
again es e v q some = push_at es e q ∙ known_by (nat_eq q e.0) v e.1 (rate_of es q) (λ same. ap (rate_of es) (eqb-true q e.0 same) ∙ some)

-- a type that doesn't
pub added : (es : List (ℕ × ℕ)) (e : ℕ × ℕ) (q : ℕ) → rate_of es e.0 ≡ None
    → option_map (λ r. route r false) (rate_of (es ++ e ∷ []) q) ≡ cond (nat_eq e.0 q) (Some (route e.1 false)) (option_map (λ r. route r false) (rate_of es q))
added es e q none =
    ap (option_map (λ r. route r false)) (push_at es e q ∙ new_by (nat_eq q e.0) e.1 (rate_of es q) (λ same. ap (rate_of es) (eqb-true q e.0 same) ∙ none))
    ∙ fresh_by (nat_eq q e.0) e.1 (rate_of es q) ∙ ap (λ (b : Bool). cond b (Some (route e.1 false)) (option_map (λ r. route r false) (rate_of es q))) (turned q e.0)

-- ---- the routes that are made, one rate more

none_kept : (o : Option ℕ) → is_some (option_map (λ r. route r false) o) ≡ false → o ≡ None
none_kept None e = refl
none_kept (Some r) e = absurd cc

some_kept : (o : Option ℕ) → is_some (option_map (λ r. route r false) o) ≡ true → (r : ℕ) × (o ≡ Some r)
some_kept None e = absurd cc
some_kept (Some r) e = (r, refl)

abbrev pub Fresh : List (ℕ × Route) → List (ℕ × ℕ) → Type 0
Fresh routes rates = (q : ℕ) → lookup (nat_eq q) routes ≡ option_map (λ r. route r false) (rate_of rates q)

pub fresh_new : (old new : List (ℕ × Route)) (rates : List (ℕ × ℕ)) (e : ℕ × ℕ) → Fresh old rates → is_some (lookup (nat_eq e.0) old) ≡ false
    → ((q : ℕ) → lookup (nat_eq q) new ≡ cond (nat_eq e.0 q) (Some (route e.1 false)) (lookup (nat_eq q) old)) → Fresh new (rates ++ e ∷ [])
fresh_new old new rates e fresh absent put = λ q.
    put q ∙ ap (λ (o : Option Route). cond (nat_eq e.0 q) (Some (route e.1 false)) o) (fresh q) ∙ sym (added rates e q (none_kept (rate_of rates e.0) (ap is_some (sym (fresh e.0)) ∙ absent)))

pub fresh_again : (routes : List (ℕ × Route)) (rates : List (ℕ × ℕ)) (e : ℕ × ℕ) → Fresh routes rates → is_some (lookup (nat_eq e.0) routes) ≡ true → Fresh routes (rates ++ e ∷ [])
fresh_again routes rates e fresh there = λ q.
    let rate = some_kept (rate_of rates e.0) (ap is_some (sym (fresh e.0)) ∙ there) in
    fresh q ∙ sym (ap (option_map (λ r. route r false)) (again rates e rate.0 q rate.1))
