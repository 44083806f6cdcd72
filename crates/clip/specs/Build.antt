-- Document 01, "Build order" (FORMAT, The build), for one kind.
use Rattle.std.specs.Prelude.{ℕ, Bool, not, ◌&&◌, List, [], ◌∷◌, map, eqb, ltb, pos, length}
use Rattle.std.proofs.Math.Option.{Option, none, some}
use Rattle.layout.specs.{Refusals.{shared_record, disconnected_records}, Numbers.{signed}, Walk.{Refusal, Answer, answered, declined}}
use Rattle.clip.specs.First.{given, ◌or◌, first_met, any, number, member, total}
use Rattle.clip.specs.{Fields.{Initial, Additional, Records, Kind, refusal_of}, Scan.{scan}, Chain.{chain}, Keys.{Key, KeyTest}}

abbrev pub initial_key : {B : Type 0} → Initial B → Key B
initial_key i = record { frame = i.frame; body = i.body }

abbrev pub record_key : {B : Type 0} → Additional B → Key B
record_key a = record { frame = a.frame; body = a.body }

-- A chain that was refused has no records.
abbrev pub positions : Answer (List ℕ) → List ℕ
positions (answered ps) = ps
positions (declined why) = []

abbrev pub chain_refusal : Answer (List ℕ) → Option Refusal
chain_refusal (answered ps) = none
chain_refusal (declined why) = some why

module _ {B : Type 0} (kind : Kind) (r : Records B) where
  unfoldable pub chain_of : ℕ → List ℕ
  chain_of track = positions (chain kind r track)

  -- "A track's keys are its initial record and its chain's records, in chain order."
  unfoldable pub keys : ℕ → List (Key B)
  keys track = initial_key (r.initial track) ∷ map (λ p. record_key (r.at p)) (chain_of track)

  -- Whether the chain of a track before this one holds a record; whether any chain does.
  unfoldable pub reached_before : ℕ → ℕ → Bool
  reached_before track position = any track (λ t. member position (chain_of t))

  abbrev pub reached : ℕ → Bool
  reached position = reached_before r.tracks position

  abbrev pub both_links_zero : ℕ → Bool
  both_links_zero position = eqb (r.at position).previous 0 && eqb (r.at position).next 0

  -- "15 unreached records with a nonzero link (how many)."
  unfoldable pub disconnected : ℕ
  disconnected = number r.additional (λ p. not (reached p) && not (both_links_zero p))

  -- "reached (links followed) and loose (unreached additional records, both links 0)"; the words are document 01's
  unfoldable pub links_followed : ℕ
  links_followed = total r.tracks (λ t. length (chain_of t))

  unfoldable pub loose : ℕ
  loose = number r.additional (λ p. not (reached p) && both_links_zero p)

module _ {B : Type 0} (kind : Kind) (test : KeyTest B) (r : Records B) where
  -- "9 record in two tracks (index)", asked of each record of a chain before what is asked of its key.
  unfoldable pub records_refusal : ℕ → List ℕ → List ℕ → Option Refusal
  records_refusal track before [] = none
  records_refusal track before (p ∷ ps) =
      given (reached_before kind r track p) (refusal_of kind shared_record (signed (r.at p).index ∷ []))
      or test track before (record_key (r.at p))
      or records_refusal track ((r.at p).frame ∷ before) ps

  -- "Then each track: its whole chain (6, 7, 8), then for each key, initial first, 9 to 13."
  unfoldable pub track_refusal : ℕ → Option Refusal
  track_refusal track =
      chain_refusal (chain kind r track)
      or test track [] (initial_key (r.initial track))
      or records_refusal track ((r.initial track).frame ∷ []) (chain_of kind r track)

  -- "scan additional records in file order (3, 4, 5). Then each track .. Then 15."
  unfoldable pub build_refusal : Option Refusal
  build_refusal =
      scan kind r
      or first_met r.tracks track_refusal
      or given (ltb 0 (disconnected kind r)) (refusal_of kind disconnected_records (pos (disconnected kind r) ∷ []))
