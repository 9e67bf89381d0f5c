-- The numbers that the replies to turns cover: each packet that is given out covers its number, and each loss covers its own.
use Rattle.std.specs.Prelude.{ℕ, zero, suc, ◌++◌, ◌+◌, ◌==◌, ◌||◌, ◌&&◌, not, Bool, true, false, List, [], ◌∷◌, max, Option, Some, None, if◌then◌else◌}
use Rattle.jitter_model.specs.declared.Verdict.{Verdict}
use Rattle.jitter_model.specs.declared.Verdict.TheVariants.{Restart}
use Rattle.jitter_model.specs.declared.Turn.{Turn}
use Rattle.jitter_model.specs.declared.Turn.TheVariants.{Packet, Lost, Request}
use Rattle.jitter_model.specs.declared.Entry.TheVariants.{Push, FlushStop, Turned}
use Rattle.jitter_model.specs.History.{History, is_flushing}
use Rattle.jitter_model.specs.Accepted.{Taken, accepted}

-- whether a push with this verdict begins a segment
abbrev pub opens : Verdict → Bool
opens (Restart dropped) = true
opens _ = false

-- one past the last number that is covered after a reply
abbrev pub next_after : Option ℕ → Turn → Option ℕ
next_after before (Packet n pts p) = Some (n + 1)
next_after before (Lost n count pts duration) = Some (n + count)
next_after before _ = before

-- one past the last number that a reply of the segment covered; unknown before the first
abbrev pub next : History → Option ℕ
next [] = None
next (Push a v n d ∷ h) = if opens v then None else next h
next (FlushStop ∷ h) = if is_flushing h then None else next h
next (Turned r ∷ h) = next_after (next h) r
next (_ ∷ h) = next h

-- the count numbers from n on, the greatest first
abbrev pub numbers_from : ℕ → ℕ → List ℕ
numbers_from n zero = []
numbers_from n (suc count) = (n + count) ∷ numbers_from n count

-- the numbers that are covered after a reply
abbrev pub covered_after : List ℕ → Turn → List ℕ
covered_after ns (Packet n pts p) = n ∷ ns
covered_after ns (Lost n count pts duration) = numbers_from n count ++ ns
covered_after ns _ = ns

-- the numbers that the replies of the segment covered, the last one first
abbrev pub covered : History → List ℕ
covered [] = []
covered (Push a v n d ∷ h) = if opens v then [] else covered h
covered (FlushStop ∷ h) = if is_flushing h then [] else covered h
covered (Turned r ∷ h) = covered_after (covered h) r
covered (_ ∷ h) = covered h

-- whether the reply gives out the packet of this number
abbrev pub gives : Turn → ℕ → Bool
gives (Packet n pts p) q = q == n
gives _ q = false

-- whether the packet of this number was given out in the segment
abbrev pub is_out : History → ℕ → Bool
is_out [] q = false
is_out (Push a v n d ∷ h) q = not (opens v) && is_out h q
is_out (FlushStop ∷ h) q = not (is_flushing h) && is_out h q
is_out (Turned r ∷ h) q = gives r q || is_out h q
is_out (_ ∷ h) q = is_out h q

-- how many of these packets are not out
abbrev pub count_in : (ℕ → Bool) → List Taken → ℕ
count_in out [] = 0
count_in out (p ∷ ps) = if out p.number then count_in out ps else count_in out ps + 1

-- how many packets are held: accepted and not given out. While a flush runs there are none
abbrev pub held_count : History → ℕ
held_count h = if is_flushing h then 0 else count_in (is_out h) (accepted h)

-- how many requests for a number were served after a reply: all up to the one that it names
abbrev pub served_after : ℕ → Turn → ℕ → ℕ
served_after before (Request m k) n = if n == m then max before (k + 1) else before
served_after before _ n = before

-- how many requests for a number were served in the segment: all up to the greatest that a reply named
abbrev pub served : History → ℕ → ℕ
served [] n = 0
served (Push a v m d ∷ h) n = if opens v then 0 else served h n
served (FlushStop ∷ h) n = if is_flushing h then 0 else served h n
served (Turned r ∷ h) n = served_after (served h n) r n
served (_ ∷ h) n = served h n
