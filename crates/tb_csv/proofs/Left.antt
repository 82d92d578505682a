-- What one read takes of what a reader has left.
use Rattle.std.proofs.Common.{◌≡◌, ◌+◌, ◌∷◌, ◌∙◌, [], ℕ, List, Bool, true, false, Option, Some, None, Bor, refl, sym, add-one, inl, Result, Ok, Err}
use Rattle.csv.specs.Machine.{Read}
use Rattle.csv.specs.Reading.{NextIs, ReadRecord, ReadsNext, Ready, pending_of, reader_trim, records_from, records_next, took_first}
use Rattle.csv.specs.declared.parser.Config.{Config}
use Rattle.csv.specs.declared.parser.State.{State}
use Rattle.csv.specs.declared.reader.Reader.{Reader}
use Rattle.csv.specs.declared.reader.Trim.TheVariants as trim
use Rattle.std.specs.Result.{IfOk, OnOk, MatchResult, IsErrAnd}
use Rattle.tb_csv.specs.Left.{IsNext, Leaves, bytes_left}
use Rattle.tb_csv.specs.Promise.Records.{Line}

records-next : (cfg : Config) (n : ℕ) (o : Option Read) (fields : Line) (s : State) (z : List ℕ) → NextIs o true fields s z
    → records_next (records_from cfg n) o ≡ fields ∷ records_from cfg n s z
records-next cfg n None fields s z h = cc h
records-next cfg n (Some p) fields s z h = rw (h.1, h.2, h.3) refl

records-end : (cfg : Config) (n : ℕ) (o : Option Read) (fields : Line) (s : State) (z : List ℕ) → NextIs o false fields s z
    → records_next (records_from cfg n) o ≡ []
records-end cfg n None fields s z h = refl
records-end cfg n (Some p) fields s z h = cc h.0

next-read : (cfg : Config) (n : ℕ) (s s2 : State) (rest : List ℕ) (k : Option (List ℕ)) (fields : Line) → ReadsNext cfg s (Some rest) k true fields s2
    → (z : List ℕ) × (k ≡ Some z) × (records_from cfg (n + 1) s rest ≡ fields ∷ records_from cfg n s2 z)
unfolding records_from
next-read cfg n s s2 rest None fields r = absurd r
next-read cfg n s s2 rest (Some z) fields r = (z, refl, rw add-one (records-next cfg n _ fields s2 z r))

end-read : (cfg : Config) (n : ℕ) (s s2 : State) (rest : List ℕ) (k : Option (List ℕ)) (fields : Line) → ReadsNext cfg s (Some rest) k false fields s2
    → records_from cfg (n + 1) s rest ≡ []
unfolding records_from
end-read cfg n s s2 rest None fields r = absurd r
end-read cfg n s s2 rest (Some z) fields r = rw add-one (records-end cfg n _ fields s2 z r)

pub next_left : (cfg : Config) (n : ℕ) (records : List Line) (old new : Reader (Bor (List ℕ))) (found : Bool) (fields : Line)
    → Leaves cfg (n + 1) records old → took_first new ≡ true → ReadRecord bytes_left old new found fields → IsNext cfg n records found fields new
next_left cfg n records old new true fields h first r =
    let (trim, ready, config, rest, source, left) = h in
    let g = next-read cfg n old.state new.state rest (pending_of (bytes_left new.rdr) new) fields (rw (config, source) at r.0) in
    (records_from cfg n new.state g.0, sym left ∙ g.2, (r.3 ∙ trim, inl first, r.2 ∙ config, g.0, rw r.1 g.1, refl))
next_left cfg n records old new false fields h first r =
    let (trim, ready, config, rest, source, left) = h in
    sym left ∙ end-read cfg n old.state new.state rest (pending_of (bytes_left new.rdr) new) fields (rw (config, source) at r.0)

-- the same of a read that may have failed
pub read_left : {E D : Type 0} (cfg : Config) (n : ℕ) (records : List Line) (old new : Reader (Bor (List ℕ))) (fields : Line) (r : Result Bool E) (m : Result Bool D) (Q : E → D → Type 0)
    → Leaves cfg (n + 1) records old → (reader_trim old ≡ trim.None → OnOk r (took_first new ≡ true))
    → IfOk r (λ found. reader_trim old ≡ trim.None → Ready old → ReadRecord bytes_left old new found fields)
    → MatchResult r (λ x. m ≡ Ok x) (λ e. IsErrAnd m (Q e)) → IfOk m (λ found. IsNext cfg n records found fields new)
read_left cfg n records old new fields (Ok found) m Q h first r is = rw is (next_left cfg n records old new found fields h (first h.0) (r h.0 h.1))
read_left cfg n records old new fields (Err e) (Err x) Q h first r is = tt
read_left cfg n records old new fields (Err e) (Ok x) Q h first r is = absurd is
