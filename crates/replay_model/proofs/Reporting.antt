-- At a report time lines are told, and nothing comes to a lane.
use Rattle.std.proofs.Common.{ℕ, ◌≡◌, refl, sym, ap, ◌∙◌, List, [], ◌∷◌, ◌++◌}
use Rattle.std.specs.Prelude.{map, flat_map, Option, option_to_list}
use Rattle.script_lang.specs.Contents.{Contents}
use Rattle.timeline.specs.declared.line.BinLine.{BinLine}
use Rattle.front_model.specs.declared.Opening.{Opening}
use Rattle.front_model.specs.declared.Step.{Step}
use Rattle.front_model.specs.declared.Step.TheVariants as step
use Rattle.front_model.specs.Events.{FrontEvent, Came, ReportsDue, Requested}
use Rattle.source_table.specs.Table.{Table, gone, expired}
use Rattle.front_model.specs.Given.{asks, table}
use Rattle.front_model.specs.Reports.{report_bytes}
use Rattle.source_table.specs.Table.{blocks}
use Rattle.front_model.specs.Moves.{Move, moves}
use Rattle.front_model.specs.Notes.{Note, Gone, Says}
use Rattle.front_model.specs.Sessions.{sessions, setting, given}
use Rattle.front_model.specs.Steps.{notes_steps, report_time_steps, steps}
use Rattle.jitter_model.specs.History.{History}
use Rattle.replay_model.specs.Events.{Timeline, Fronted, Told, front, lane, openings, latest}
use Rattle.replay_model.specs.Taking.{stepped, all_stepped, fronted}

-- each step tells a line
abbrev pub AreLines : List Step → Type 0
AreLines [] = Unit {0}
AreLines (step.Tell x ∷ xs) = AreLines xs
AreLines (step.Open o ∷ xs) = ⊥
AreLines (step.Push l a ∷ xs) = ⊥
AreLines (step.Sync l r ∷ xs) = ⊥

lines_then : (xs ys : List Step) → AreLines xs → AreLines ys → AreLines (xs ++ ys)
lines_then [] ys h k = k
lines_then (step.Tell x ∷ xs) ys h k = lines_then xs ys h k
lines_then (step.Open o ∷ xs) ys h k = absurd h
lines_then (step.Push l a ∷ xs) ys h k = absurd h
lines_then (step.Sync l r ∷ xs) ys h k = absurd h

report_lines : (c : Contents) (time : ℕ) (older : List Move) (session : ℕ) (gone : List ℕ) (bytes : List ℕ) → AreLines (notes_steps c time older session ((map Gone gone ++ Says bytes ∷ []) ++ []))
report_lines c time older session [] bytes = tt
report_lines c time older session (x ∷ gone) bytes = report_lines c time older session gone bytes

-- the table of a session before a report time
abbrev before : Contents → List FrontEvent → ℕ → Table
before c older session = table (setting c session) (asks (given c session older))

session_lines : (c : Contents) (time : ℕ) (older : List FrontEvent) (session : ℕ) → AreLines (report_time_steps c time older session)
session_lines c time older session =
    report_lines c time (moves c older) session (gone (before c older session) time c.settings.timeout)
    (report_bytes c.settings.ssrc (blocks (expired (before c older session) time c.settings.timeout) time))

all_lines : (c : Contents) (time : ℕ) (older : List FrontEvent) (ss : List ℕ) → AreLines (flat_map (report_time_steps c time older) ss)
all_lines c time older [] = tt
all_lines c time older (s ∷ ss) =
    lines_then (report_time_steps c time older s) (flat_map (report_time_steps c time older) ss) (session_lines c time older s) (all_lines c time older ss)

pub reports_are_lines : (c : Contents) (older : List FrontEvent) (time : ℕ) → AreLines (steps c older (ReportsDue time))
reports_are_lines c older time = all_lines c time older (sessions c)

-- lines leave the lanes and what came to the front
lines_lane : (c : Contents) (t : ℕ) (xs : List Step) (l : ℕ) (tl : Timeline) → AreLines xs → lane l (all_stepped c t xs tl) ≡ lane l tl
lines_lane c t [] l tl h = refl
lines_lane c t (step.Tell x ∷ xs) l tl h = lines_lane c t xs l (Told t x ∷ tl) h
lines_lane c t (step.Open o ∷ xs) l tl h = absurd h
lines_lane c t (step.Push k a ∷ xs) l tl h = absurd h
lines_lane c t (step.Sync k r ∷ xs) l tl h = absurd h

lines_front : (c : Contents) (t : ℕ) (xs : List Step) (tl : Timeline) → AreLines xs → front (all_stepped c t xs tl) ≡ front tl
lines_front c t [] tl h = refl
lines_front c t (step.Tell x ∷ xs) tl h = lines_front c t xs (Told t x ∷ tl) h
lines_front c t (step.Open o ∷ xs) tl h = absurd h
lines_front c t (step.Push k a ∷ xs) tl h = absurd h
lines_front c t (step.Sync k r ∷ xs) tl h = absurd h

pub reported_lane : (c : Contents) (t l : ℕ) (tl : Timeline) → lane l (fronted c t (ReportsDue t) tl) ≡ lane l tl
reported_lane c t l tl =
    lines_lane c t (steps c (front tl) (ReportsDue t)) l (Fronted t (ReportsDue t) ∷ tl) (reports_are_lines c (front tl) t)

pub reported_front : (c : Contents) (t : ℕ) (tl : Timeline) → front (fronted c t (ReportsDue t) tl) ≡ ReportsDue t ∷ front tl
reported_front c t tl =
    lines_front c t (steps c (front tl) (ReportsDue t)) (Fronted t (ReportsDue t) ∷ tl) (reports_are_lines c (front tl) t)
