-- The lines of a statement, as they are written one after another.
use Rattle.std.proofs.Common.{◌≡◌, ℕ, ◌+◌, ◌<◌, ◌++◌, List, [], ◌∷◌, length, map, append_assoc, get_or, take, arith, ap, sym, ◌∙◌, suc, zero}
use Rattle.std.specs.List.{flat_map, range_with_len}
use Rattle.std.proofs.lemmas.List.{append-nil, flat_map_more, take_more, length-map, length-take, map-append}
use Rattle.xm_rules.specs.State.{State}
use Rattle.xm_rules.specs.Step.{Journal, replay}
use Rattle.xm_rules.specs.Sums.{total_money, total_quantity}
use Rattle.xm_rules.specs.declared.orders.Order.{Order}
use Rattle.xm_rules.specs.declared.orders.Stop.{Stop}
use Rattle.xm_rules.specs.declared.orders.Trade.{Trade}
use Rattle.xm_files.specs.Names.{NameLists}
use Rattle.xm_texts.specs.Statement.{each_text, heading_text, member_indices, name_at, net_line, order_line, security_text, stop_line, today_of, total_text, trade_line}

-- one more number of a range
pub range_with_len-more : (from n : ℕ) → range_with_len from (n + 1) ≡ range_with_len from n ++ (from + n) ∷ []
range_with_len-more from zero = let same : from ≡ from + 0 = omega arith in ap (λ (k : ℕ). k ∷ []) same
range_with_len-more from (suc n) =
    let longer : suc n + 1 ≡ suc (n + 1) = omega arith in
    let last : from + 1 + n ≡ from + suc n = omega arith in
    rw longer (ap (λ (ks : List ℕ). from ∷ ks) (range_with_len-more (from + 1) n ∙ ap (λ (k : ℕ). range_with_len (from + 1) n ++ k ∷ []) last))

-- one more line for a number
pub lines-more : (line : ℕ → List ℕ) (text : List ℕ) (n : ℕ) → (text ++ flat_map line (range_with_len 0 n)) ++ line n ≡ text ++ flat_map line (range_with_len 0 (n + 1))
lines-more line text n =
    let last : 0 + n ≡ n = omega arith in
    flat_map_more line text (range_with_len 0 n) n ∙ ap (λ (ks : List ℕ). text ++ flat_map line ks) (sym (range_with_len-more 0 n ∙ ap (λ (k : ℕ). range_with_len 0 n ++ k ∷ []) last))

-- one more security
each_text-more : (text_of : ℕ → State → List ℕ) (index : ℕ) (states : List State) (s : State) → each_text text_of index (states ++ s ∷ []) ≡ each_text text_of index states ++ text_of (index + length states) s
each_text-more text_of index [] s =
    let same : index ≡ index + 0 = omega arith in
    append-nil (text_of index s) ∙ ap (λ (k : ℕ). text_of k s) same
each_text-more text_of index (t ∷ ts) s =
    let same : index + 1 + length ts ≡ index + length (t ∷ ts) = omega arith in
    ap (λ (text : List ℕ). text_of index t ++ text) (each_text-more text_of (index + 1) ts s ∙ ap (λ (k : ℕ). each_text text_of (index + 1) ts ++ text_of k s) same)
    ∙ sym (append_assoc (text_of index t) (each_text text_of (index + 1) ts) (text_of (index + length (t ∷ ts)) s))

parts : (text heading trades orders stops nets total : List ℕ)
    → (((((text ++ heading) ++ trades) ++ orders) ++ stops) ++ nets) ++ total ≡ text ++ (((((heading ++ trades) ++ orders) ++ stops) ++ nets) ++ total)
parts text heading trades orders stops nets total = simp append_assoc

-- a security is written by one part after another
pub security-written : (names : NameLists) (index : ℕ) (s : State) (size : ℕ) (trades : List Trade) (orders : List Order) (stops : List Stop) (text t1 t2 t3 t4 t5 t6 : List ℕ)
    → size ≡ s.settings.tick → trades ≡ s.trades → orders ≡ s.orders → stops ≡ s.stops
    → t1 ≡ text ++ heading_text (name_at names.securities index) s → t2 ≡ t1 ++ flat_map (trade_line names size) trades → t3 ≡ t2 ++ flat_map (order_line names size) orders
    → t4 ≡ t3 ++ flat_map (stop_line names size) stops → t5 ≡ t4 ++ flat_map (net_line names s) (member_indices names)
    → t6 ≡ t5 ++ total_text s.settings.tick (total_quantity s.trades) (total_money s.trades) → t6 ≡ text ++ security_text names index s
security-written names index s size trades orders stops text t1 t2 t3 t4 t5 t6 a b c d e1 e2 e3 e4 e5 e6 =
    let tick = s.settings.tick in
    let f2 : t2 ≡ t1 ++ flat_map (trade_line names tick) s.trades =
    e2 ∙ ap (λ (ts : List Trade). t1 ++ flat_map (trade_line names size) ts) b ∙ ap (λ (k : ℕ). t1 ++ flat_map (trade_line names k) s.trades) a in
    let f3 : t3 ≡ t2 ++ flat_map (order_line names tick) s.orders =
    e3 ∙ ap (λ (os : List Order). t2 ++ flat_map (order_line names size) os) c ∙ ap (λ (k : ℕ). t2 ++ flat_map (order_line names k) s.orders) a in
    let f4 : t4 ≡ t3 ++ flat_map (stop_line names tick) s.stops =
    e4 ∙ ap (λ (ss : List Stop). t3 ++ flat_map (stop_line names size) ss) d ∙ ap (λ (k : ℕ). t3 ++ flat_map (stop_line names k) s.stops) a in
    e6
    ∙ ap (λ (t : List ℕ). t ++ total_text tick (total_quantity s.trades) (total_money s.trades))
    (e5
    ∙ ap (λ (t : List ℕ). t ++ flat_map (net_line names s) (member_indices names))
    (f4
    ∙ ap (λ (t : List ℕ). t ++ flat_map (stop_line names tick) s.stops)
    (f3 ∙ ap (λ (t : List ℕ). t ++ flat_map (order_line names tick) s.orders) (f2 ∙ ap (λ (t : List ℕ). t ++ flat_map (trade_line names tick) s.trades) e1))))
    ∙ parts text (heading_text (name_at names.securities index) s) (flat_map (trade_line names tick) s.trades) (flat_map (order_line names tick) s.orders)
    (flat_map (stop_line names tick) s.stops) (flat_map (net_line names s) (member_indices names)) (total_text tick (total_quantity s.trades) (total_money s.trades))

-- the securities up to one, and it
each-taken : (text_of : ℕ → State → List ℕ) (js : List Journal) (i : ℕ) (j : Journal) → i < length js → j ≡ get_or js i j
    → each_text text_of 0 (map replay (take (i + 1) js)) ≡ each_text text_of 0 (map replay (take i js)) ++ text_of i (replay j)
each-taken text_of js i j within is =
    let more = take_more js i j within ∙ ap (λ (k : Journal). take i js ++ k ∷ []) (sym is) in
    let place : 0 + length (map replay (take i js)) ≡ i = simp (length-map, length-take) (omega arith) in
    ap (λ (ks : List Journal). each_text text_of 0 (map replay ks)) more
    ∙ ap (each_text text_of 0) (map-append replay (take i js) (j ∷ []))
    ∙ each_text-more text_of 0 (map replay (take i js)) (replay j)
    ∙ ap (λ (k : ℕ). each_text text_of 0 (map replay (take i js)) ++ text_of k (replay j)) place

-- one security's text more, behind what came before them all
pub each-more : (text_of : ℕ → State → List ℕ) (begun old new : List ℕ) (js : List Journal) (i : ℕ) (j : Journal) → i < length js → j ≡ get_or js i j
    → old ≡ begun ++ each_text text_of 0 (map replay (take i js)) → new ≡ old ++ text_of i (replay j) → new ≡ begun ++ each_text text_of 0 (map replay (take (i + 1) js))
each-more text_of begun old new js i j within is so_far next =
    next
    ∙ ap (λ (text : List ℕ). text ++ text_of i (replay j)) so_far
    ∙ append_assoc begun (each_text text_of 0 (map replay (take i js))) (text_of i (replay j))
    ∙ ap (λ (text : List ℕ). begun ++ text) (sym (each-taken text_of js i j within is))

-- four parts of a text that was empty
pub four_parts : (t t1 t2 t3 t4 a b c d : List ℕ) → t ≡ [] → t1 ≡ t ++ a → t2 ≡ t1 ++ b → t3 ≡ t2 ++ c → t4 ≡ t3 ++ d → t4 ≡ a ++ b ++ c ++ d
four_parts t t1 t2 t3 t4 a b c d e e1 e2 e3 e4 =
    e4 ∙ ap (λ (u : List ℕ). u ++ d) (e3 ∙ ap (λ (u : List ℕ). u ++ c) (e2 ∙ ap (λ (u : List ℕ). u ++ b) (e1 ∙ ap (λ (u : List ℕ). u ++ a) e)))

-- the date is that of the first security
pub today_of-first : (js : List Journal) (j : Journal) → 0 < length js → j ≡ get_or js 0 j → (replay j).settings.today ≡ today_of (map replay js)
today_of-first [] j some first = absurd (omega arith)
today_of-first (k ∷ ks) j some first = ap (λ (i : Journal). (replay i).settings.today) first
