-- Turns come to an Idle or Flushing, and what is asked for in them leaves the lanes.
use Rattle.std.proofs.Common.{ℕ, zero, suc, ◌≡◌, ◌≢◌, ◌≤◌, ◌<◌, Bool, true, false, refl, sym, ap, subst, ◌∙◌, List, [], ◌∷◌, Option, None, Some, arith, max}
use Rattle.std.specs.Prelude.{if◌then◌else◌, ◌==◌}
use Rattle.std.proofs.lemmas.Grind.{common_steps}
use Rattle.jitter_model.specs.declared.Settings.{Settings}
use Rattle.jitter_model.specs.declared.Entry.{Entry}
use Rattle.jitter_model.specs.declared.Turn.{Turn}
use Rattle.jitter_model.specs.declared.Entry.TheVariants.{Turned, Clock}
use Rattle.jitter_model.specs.History.{History, now, pushes}
use Rattle.jitter_model.specs.Turns.{turn, is_quiet, wake_of, left}
use Rattle.jitter_model.specs.Laws.{IsLater}
use Rattle.jitter_model.specs.Runs.{Run}
use Rattle.script_lang.specs.Contents.{Contents}
use Rattle.script_lang.specs.declared.script.Item.{Item}
use Rattle.timeline.specs.declared.line.BinLine.TheVariants as told
use Rattle.front_model.specs.declared.Opening.{Opening}
use Rattle.front_model.specs.Events.{Requested}
use Rattle.front_model.specs.Reports.{nack_bytes}
use Rattle.replay_model.specs.Events.{Timeline, Fronted, Told, At, lane, latest, items}
use Rattle.replay_model.specs.Turning.{turned, turns_up_to, all_turns, request, all_requested, sent, asked, settled, ticked}
use Rattle.replay_model.specs.Serving.{wake}
use Rattle.replay_model.proofs.Lanes.{lane_here, lane_other, by_cases}

-- what the laws of the list machine say of turns and of wakes
abbrev pub TurnsFall : Type 0
TurnsFall =
    (s : Settings) (h : History) → is_quiet (turn s h) ≡ false
    → left s (Turned (turn s h) ∷ h) < left s h

abbrev pub WakesLater : Type 0
WakesLater = (s : Settings) (h : History) → IsLater (now h) (wake_of (turn s h))

abbrev pub is_rest : (ℕ → Opening) → ℕ → Timeline → Bool
is_rest o l tl = is_quiet (turn (o l).settings (lane l tl))

abbrev left_of : (ℕ → Opening) → ℕ → Timeline → ℕ
left_of o l tl = left (o l).settings (lane l tl)

turned_left : TurnsFall → (o : ℕ → Opening) (t l : ℕ) (tl : Timeline) → is_rest o l tl ≡ false → left_of o l (turned o t l tl) < left_of o l tl
turned_left falls o t l tl i =
    subst (λ (h : History). left (o l).settings h < left_of o l tl) (sym (lane_here t l (Turned (turn (o l).settings (lane l tl))) tl))
    (falls (o l).settings (lane l tl) i)

-- no turn where one is quiet
pub turns_quiet : (n : ℕ) (o : ℕ → Opening) (t l : ℕ) (tl : Timeline) → is_rest o l tl ≡ true → turns_up_to n o t l tl ≡ tl
turns_quiet zero o t l tl i = refl
turns_quiet (suc n) o t l tl i = ap (λ (b : Bool). if b then tl else turns_up_to n o t l (turned o t l tl)) i

pub turns_more : (n : ℕ) (o : ℕ → Opening) (t l : ℕ) (tl : Timeline) → is_rest o l tl ≡ false → turns_up_to (suc n) o t l tl ≡ turns_up_to n o t l (turned o t l tl)
turns_more n o t l tl i = ap (λ (b : Bool). if b then tl else turns_up_to n o t l (turned o t l tl)) i

none_left : TurnsFall → (o : ℕ → Opening) (t l : ℕ) (tl : Timeline) → left_of o l tl ≤ 0 → is_rest o l tl ≡ true
none_left falls o t l tl le =
    by_cases (is_rest o l tl) (λ i. i)
    (λ i. absurd (let f : left_of o l (turned o t l tl) < left_of o l tl = turned_left falls o t l tl i in omega arith))

-- any count that is enough comes to the same
turns_enough : TurnsFall → (n m : ℕ) (o : ℕ → Opening) (t l : ℕ) (tl : Timeline) → left_of o l tl ≤ n → left_of o l tl ≤ m → turns_up_to n o t l tl ≡ turns_up_to m o t l tl
turns_enough falls zero m o t l tl a b = sym (turns_quiet m o t l tl (none_left falls o t l tl a))
turns_enough falls (suc n) zero o t l tl a b = turns_quiet (suc n) o t l tl (none_left falls o t l tl b)
turns_enough falls (suc n) (suc m) o t l tl a b =
    by_cases (is_rest o l tl)
    (λ i. turns_quiet (suc n) o t l tl i ∙ sym (turns_quiet (suc m) o t l tl i))
    (λ i. let f : left_of o l (turned o t l tl) < left_of o l tl = turned_left falls o t l tl i in
    turns_more n o t l tl i ∙ turns_enough falls n m o t l (turned o t l tl) (omega arith) (omega arith) ∙ sym (turns_more m o t l tl i))

pub turns_stop : (o : ℕ → Opening) (t l : ℕ) (tl : Timeline) → is_rest o l tl ≡ true → all_turns o t l tl ≡ tl
turns_stop o t l tl i = turns_quiet (left_of o l tl) o t l tl i

pub turns_step : TurnsFall → (o : ℕ → Opening) (t l : ℕ) (tl : Timeline) → is_rest o l tl ≡ false → all_turns o t l tl ≡ all_turns o t l (turned o t l tl)
turns_step falls o t l tl i =
    let f : left_of o l (turned o t l tl) < left_of o l tl = turned_left falls o t l tl i in
    turns_enough falls (left_of o l tl) (suc (left_of o l tl)) o t l tl (omega arith) (omega arith)
    ∙ turns_more (left_of o l tl) o t l tl i
    ∙ turns_enough falls (left_of o l tl) (left_of o l (turned o t l tl)) o t l (turned o t l tl) (omega arith) (omega arith)

turns_settle : TurnsFall → (n : ℕ) (o : ℕ → Opening) (t l : ℕ) (tl : Timeline) → left_of o l tl ≤ n → is_rest o l (turns_up_to n o t l tl) ≡ true
turns_settle falls zero o t l tl a = none_left falls o t l tl a
turns_settle falls (suc n) o t l tl a =
    by_cases (is_rest o l tl)
    (λ i. subst (λ (x : Timeline). is_rest o l x ≡ true) (sym (turns_quiet (suc n) o t l tl i)) i)
    (λ i. let f : left_of o l (turned o t l tl) < left_of o l tl = turned_left falls o t l tl i in
    subst (λ (x : Timeline). is_rest o l x ≡ true) (sym (turns_more n o t l tl i)) (turns_settle falls n o t l (turned o t l tl) (omega arith)))

-- ---- what is asked for

requested_lane : (o : Opening) (t : ℕ) (xs : List ℕ) (k : ℕ) (tl : Timeline) → lane k (all_requested o t xs tl) ≡ lane k tl
requested_lane o t [] k tl = refl
requested_lane o t (x ∷ xs) k tl = requested_lane o t xs k (Fronted t (Requested (request o x)) ∷ tl)

sent_lane : (c : Contents) (o : Opening) (t : ℕ) (xs : List ℕ) (k : ℕ) (tl : Timeline) → lane k (sent c o t xs tl) ≡ lane k tl
sent_lane c o t [] k tl = refl
sent_lane c o t (x ∷ xs) k tl =
    requested_lane o t (x ∷ xs) k (Told t (told.Nack t o.session (nack_bytes c.settings.ssrc o.ssrc (x ∷ xs))) ∷ tl)

requested_latest : (o : Opening) (t : ℕ) (xs : List ℕ) (tl : Timeline) → t ≤ latest tl → latest (all_requested o t xs tl) ≡ latest tl
requested_latest o t [] tl le = refl
requested_latest o t (x ∷ xs) tl le =
    let e : latest (Fronted t (Requested (request o x)) ∷ tl) ≡ latest tl = omega arith in
    requested_latest o t xs (Fronted t (Requested (request o x)) ∷ tl) (omega arith) ∙ e

sent_latest : (c : Contents) (o : Opening) (t : ℕ) (xs : List ℕ) (tl : Timeline) → t ≤ latest tl → latest (sent c o t xs tl) ≡ latest tl
sent_latest c o t [] tl le = refl
sent_latest c o t (x ∷ xs) tl le =
    let before : Timeline = Told t (told.Nack t o.session (nack_bytes c.settings.ssrc o.ssrc (x ∷ xs))) ∷ tl in
    let e : latest before ≡ latest tl = omega arith in
    requested_latest o t (x ∷ xs) before (omega arith) ∙ e

-- ---- a series

pub settled_lane : (c : Contents) (o : ℕ → Opening) (t l k : ℕ) (tl : Timeline) → lane k (settled c o t l tl) ≡ lane k (all_turns o t l tl)
settled_lane c o t l k tl = sent_lane c (o l) t (asked (lane l (all_turns o t l tl))) k (all_turns o t l tl)

pub settled_rests : TurnsFall → (c : Contents) (o : ℕ → Opening) (t l : ℕ) (tl : Timeline) → is_rest o l (settled c o t l tl) ≡ true
settled_rests falls c o t l tl =
    ap (λ (h : History). is_quiet (turn (o l).settings h)) (settled_lane c o t l l tl) ∙ turns_settle falls (left_of o l tl) o t l tl (omega arith)

-- turns leave the time, the other lanes and the greatest time
turns_now : (n : ℕ) (o : ℕ → Opening) (t l : ℕ) (tl : Timeline) → now (lane l (turns_up_to n o t l tl)) ≡ now (lane l tl)
turns_now zero o t l tl = refl
turns_now (suc n) o t l tl =
    by_cases (is_rest o l tl)
    (λ i. ap (λ (x : Timeline). now (lane l x)) (turns_quiet (suc n) o t l tl i))
    (λ i. ap (λ (x : Timeline). now (lane l x)) (turns_more n o t l tl i) ∙ turns_now n o t l (turned o t l tl)
    ∙ ap now (lane_here t l (Turned (turn (o l).settings (lane l tl))) tl))

turns_other : (n : ℕ) (o : ℕ → Opening) (t k l : ℕ) (tl : Timeline) → k ≢ l → lane l (turns_up_to n o t k tl) ≡ lane l tl
turns_other zero o t k l tl h = refl
turns_other (suc n) o t k l tl h =
    by_cases (is_rest o k tl)
    (λ i. ap (lane l) (turns_quiet (suc n) o t k tl i))
    (λ i. ap (lane l) (turns_more n o t k tl i) ∙ turns_other n o t k l (turned o t k tl) h
    ∙ lane_other t k l (Turned (turn (o k).settings (lane k tl))) tl h)

turns_latest : (n : ℕ) (o : ℕ → Opening) (t l : ℕ) (tl : Timeline) → t ≤ latest tl → latest (turns_up_to n o t l tl) ≡ latest tl
turns_latest zero o t l tl le = refl
turns_latest (suc n) o t l tl le =
    by_cases (is_rest o l tl)
    (λ i. ap latest (turns_quiet (suc n) o t l tl i))
    (λ i. let e : latest (turned o t l tl) ≡ latest tl = omega arith in
    ap latest (turns_more n o t l tl i) ∙ turns_latest n o t l (turned o t l tl) (omega arith) ∙ e)

-- after a tick a lane's wake is later, and the other lanes are as before
pub ticked_later : WakesLater → (c : Contents) (o : ℕ → Opening) (t l : ℕ) (tl : Timeline) → IsLater t (wake o (ticked c o t l tl) l)
ticked_later rising c o t l tl =
    let after : Timeline = ticked c o t l tl in
    let time : now (lane l after) ≡ max t (now (lane l tl)) =
    ap now (settled_lane c o t l l (At t l (Clock t) ∷ tl)) ∙ turns_now _ o t l (At t l (Clock t) ∷ tl) ∙ ap now (lane_here t l (Clock t) tl) in
    later _ _ (wake o after l) (rising (o l).settings (lane l after)) (subst (λ (n : ℕ). t ≤ n) (sym time) (omega arith))
  where
    later : (t n : ℕ) (x : Option ℕ) → IsLater n x → t ≤ n → IsLater t x
    later t n None h le = tt
    later t n (Some w) h le = omega arith

pub entered_other : (c : Contents) (o : ℕ → Opening) (t k l : ℕ) (e : Entry) (tl : Timeline) → k ≢ l → lane l (settled c o t k (At t k e ∷ tl)) ≡ lane l tl
entered_other c o t k l e tl h =
    settled_lane c o t k l (At t k e ∷ tl) ∙ turns_other _ o t k l (At t k e ∷ tl) h ∙ lane_other t k l e tl h

pub ticked_other : (c : Contents) (o : ℕ → Opening) (t k l : ℕ) (tl : Timeline) → k ≢ l → lane l (ticked c o t k tl) ≡ lane l tl
ticked_other c o t k l tl h = entered_other c o t k l (Clock t) tl h

-- a call and the turns after it
pub entered_latest : (c : Contents) (o : ℕ → Opening) (t l : ℕ) (e : Entry) (tl : Timeline) → latest (settled c o t l (At t l e ∷ tl)) ≡ max t (latest tl)
entered_latest c o t l e tl =
    let same : latest (all_turns o t l (At t l e ∷ tl)) ≡ max t (latest tl) = turns_latest _ o t l (At t l e ∷ tl) (omega arith) in
    sent_latest c (o l) t (asked (lane l (all_turns o t l (At t l e ∷ tl)))) (all_turns o t l (At t l e ∷ tl)) (omega (arith, same)) ∙ same

pub ticked_latest : (c : Contents) (o : ℕ → Opening) (t l : ℕ) (tl : Timeline) → latest (ticked c o t l tl) ≡ max t (latest tl)
ticked_latest c o t l tl = entered_latest c o t l (Clock t) tl

-- ---- runs

turned_run : (o : ℕ → Opening) (t l : ℕ) (tl : Timeline) → Run (o l).settings (lane l tl) → Run (o l).settings (lane l (turned o t l tl))
turned_run o t l tl run = subst (Run (o l).settings) (sym (lane_here t l (Turned (turn (o l).settings (lane l tl))) tl)) (refl, run)

turns_run : (n : ℕ) (o : ℕ → Opening) (t l : ℕ) (tl : Timeline) → Run (o l).settings (lane l tl) → Run (o l).settings (lane l (turns_up_to n o t l tl))
turns_run zero o t l tl run = run
turns_run (suc n) o t l tl run =
    by_cases (is_rest o l tl)
    (λ i. subst (λ (x : Timeline). Run (o l).settings (lane l x)) (sym (turns_quiet (suc n) o t l tl i)) run)
    (λ i. subst (λ (x : Timeline). Run (o l).settings (lane l x)) (sym (turns_more n o t l tl i)) (turns_run n o t l (turned o t l tl) (turned_run o t l tl run)))

pub entered_run : (c : Contents) (o : ℕ → Opening) (t l : ℕ) (e : Entry) (tl : Timeline) → Run (o l).settings (e ∷ lane l tl) → Run (o l).settings (lane l (settled c o t l (At t l e ∷ tl)))
entered_run c o t l e tl run =
    subst (Run (o l).settings) (sym (settled_lane c o t l l (At t l e ∷ tl)))
    (turns_run _ o t l (At t l e ∷ tl) (subst (Run (o l).settings) (sym (lane_here t l e tl)) run))

pub settled_run : (c : Contents) (o : ℕ → Opening) (t l : ℕ) (tl : Timeline) → Run (o l).settings (lane l tl) → Run (o l).settings (lane l (settled c o t l tl))
settled_run c o t l tl run =
    subst (Run (o l).settings) (sym (settled_lane c o t l l tl)) (turns_run (left_of o l tl) o t l tl run)

-- ---- what a series leaves

pub settled_other : (c : Contents) (o : ℕ → Opening) (t k l : ℕ) (tl : Timeline) → k ≢ l → lane l (settled c o t k tl) ≡ lane l tl
settled_other c o t k l tl ne = settled_lane c o t k l tl ∙ turns_other (left_of o k tl) o t k l tl ne

turn_pushes : (t k l : ℕ) (r : Turn) (tl : Timeline) → pushes (lane l (At t k (Turned r) ∷ tl)) ≡ pushes (lane l tl)
turn_pushes t k l r tl =
    by_cases (k == l)
    (λ q. let eq : k ≡ l = grind (arith, common_steps) in
    subst (λ (x : ℕ). pushes (lane l (At t x (Turned r) ∷ tl)) ≡ pushes (lane l tl)) (sym eq) (ap pushes (lane_here t l (Turned r) tl)))
    (λ q. let ne : k ≢ l = grind (arith, common_steps) in ap pushes (lane_other t k l (Turned r) tl ne))

turns_pushes : (n : ℕ) (o : ℕ → Opening) (t k l : ℕ) (tl : Timeline) → pushes (lane l (turns_up_to n o t k tl)) ≡ pushes (lane l tl)
turns_pushes zero o t k l tl = refl
turns_pushes (suc n) o t k l tl =
    by_cases (is_rest o k tl)
    (λ i. ap (λ (x : Timeline). pushes (lane l x)) (turns_quiet (suc n) o t k tl i))
    (λ i. ap (λ (x : Timeline). pushes (lane l x)) (turns_more n o t k tl i) ∙ turns_pushes n o t k l (turned o t k tl)
    ∙ turn_pushes t k l (turn (o k).settings (lane k tl)) tl)

pub settled_pushes : (c : Contents) (o : ℕ → Opening) (t k l : ℕ) (tl : Timeline) → pushes (lane l (settled c o t k tl)) ≡ pushes (lane l tl)
settled_pushes c o t k l tl = ap pushes (settled_lane c o t k l tl) ∙ turns_pushes (left_of o k tl) o t k l tl

turns_items : (n : ℕ) (o : ℕ → Opening) (t k : ℕ) (tl : Timeline) → items (turns_up_to n o t k tl) ≡ items tl
turns_items zero o t k tl = refl
turns_items (suc n) o t k tl =
    by_cases (is_rest o k tl)
    (λ i. ap items (turns_quiet (suc n) o t k tl i))
    (λ i. ap items (turns_more n o t k tl i) ∙ turns_items n o t k (turned o t k tl))

requested_items : (o : Opening) (t : ℕ) (xs : List ℕ) (tl : Timeline) → items (all_requested o t xs tl) ≡ items tl
requested_items o t [] tl = refl
requested_items o t (x ∷ xs) tl = requested_items o t xs (Fronted t (Requested (request o x)) ∷ tl)

sent_items : (c : Contents) (o : Opening) (t : ℕ) (xs : List ℕ) (tl : Timeline) → items (sent c o t xs tl) ≡ items tl
sent_items c o t [] tl = refl
sent_items c o t (x ∷ xs) tl =
    requested_items o t (x ∷ xs) (Told t (told.Nack t o.session (nack_bytes c.settings.ssrc o.ssrc (x ∷ xs))) ∷ tl)

pub settled_items : (c : Contents) (o : ℕ → Opening) (t k : ℕ) (tl : Timeline) → items (settled c o t k tl) ≡ items tl
settled_items c o t k tl =
    sent_items c (o k) t (asked (lane k (all_turns o t k tl))) (all_turns o t k tl) ∙ turns_items (left_of o k tl) o t k tl
