-- A command that a desk took, published with a watch's number, and what the watch knows then.
use Rattle.std.proofs.Common.{◌≡◌, ℕ, ◌+◌, ◌<◌, [], ◌∷◌, ◌++◌, sym, ap, ◌∙◌, arith}
use Rattle.xm_board.proofs.Prefixes.{version-grown}
use Rattle.xm_board.proofs.Publishing.{last_number-grown, last_own-grown, quote-is, unnumbered-grown}
use Rattle.xm_board.specs.Journals.{entry_of, grown, known_by, last_number, last_own, quote_of, unnumbered, version_of}
use Rattle.xm_board.specs.declared.journal.NumberedJournal.{NumberedJournal}
use Rattle.xm_board.specs.declared.watch.Known.{Known}
use Rattle.xm_rules.proofs.Journals.{journal_of}
use Rattle.xm_rules.specs.Quote.{quote}
use Rattle.xm_rules.specs.Step.{Journal, replay}
use Rattle.xm_rules.specs.declared.commands.Command.{Command}
use Rattle.xm_rules.specs.declared.replies.Quote.{Quote}

-- the journal with the command is the desk's that took it
pub took-grown : (p q : NumberedJournal) (d e : Journal) (n : ℕ) (c : Command) → q ≡ p → unnumbered p ≡ d → e ≡ journal_of d.settings (d.commands ++ c ∷ []) → unnumbered (grown q (entry_of n c)) ≡ e
took-grown p q d e n c same tied took =
    ap (λ (j : NumberedJournal). unnumbered (grown j (entry_of n c))) same ∙ unnumbered-grown p (entry_of n c) ∙ ap (λ (k : Journal). journal_of k.settings (k.commands ++ c ∷ [])) tied ∙ sym took

-- and its quote the desk's
pub quote-shown : (p : NumberedJournal) (d : Journal) (n m : ℕ) (c : Command) (q : Quote) → q ≡ quote (replay d) → unnumbered (grown p (entry_of n c)) ≡ d → m ≡ n → q ≡ quote_of (grown p (entry_of m c))
quote-shown p d n m c q shows took same =
    shows ∙ ap (λ (j : Journal). quote (replay j)) (sym took) ∙ sym (quote-is (grown p (entry_of n c))) ∙ ap (λ (k : ℕ). quote_of (grown p (entry_of k c))) (sym same)

-- it is news to the watch whose number it has
pub may-own : (p q : NumberedJournal) (w : Known) (m : ℕ) (c : Command) → w.seen ≡ p → m ≡ w.number → q ≡ grown p (entry_of m c) → (version_of w.seen < version_of q) × (last_number q ≡ w.number)
may-own p q w m c told same is =
    let longer = ap version_of is ∙ version-grown p (entry_of m c) in
    let seen = ap version_of told in
    (omega (arith, longer, seen), ap last_number is ∙ last_number-grown p (entry_of m c) ∙ same)

-- and the last of its own entries then
pub told-own : (p q r : NumberedJournal) (w v : Known) (m : ℕ) (c : Command) → m ≡ w.number → q ≡ grown p (entry_of m c) → r ≡ q → v ≡ known_by w.number q (w.own_entries ++ last_own q)
    → v ≡ known_by w.number r (w.own_entries ++ (version_of p + 1, entry_of w.number c) ∷ [])
told-own p q r w v m c same is kept told =
    let own : last_own q ≡ (version_of p + 1, entry_of w.number c) ∷ [] = ap last_own is ∙ last_own-grown p (entry_of m c) ∙ ap (λ (k : ℕ). (version_of p + 1, entry_of k c) ∷ []) same in
    told ∙ (λ i. known_by w.number (sym kept i) (w.own_entries ++ own i))
