use Rattle.std.proofs.Common.{◌+◌, ◌-◌, ◌<◌, drop, get_or, length, map, sym, ap, arith, ◌∙◌}
use Rattle.std.proofs.lemmas.List.{drop_more}
use Rattle.xm_files.proofs.FilesRead.{reading-fails}
use Rattle.xm_files.specs.OrderFiles.{FilesLeft}
use Rattle.xm_files.proofs.order_files.OrderFiles.next.Goals as goal

pub returns-in-Err-clause-fault : goal.returns-in-Err-clause-fault
returns-in-Err-clause-fault g c =
    let readers = c.self.inside.readers.now in
    let at = c.self.inside.number in
    let reader = c.index-self-self.result in
    let within : at < length readers = omega (arith, c.if-self.false, c.self.invariant.within) in
    let left = ap (λ (f : FilesLeft). f.left) (sym c.self.view_is) ∙ ap (map g.R.Read.remaining) (drop_more readers at reader within) in
    reading-fails c.args.self.now (g.R.Read.remaining (get_or readers at reader)) (map g.R.Read.remaining (drop (at + 1) readers)) (at + 1) (c.self.inside.first - 1) c.in-Err.fault c.fault.result left (ap (λ (f : FilesLeft). f.number + 1) c.self.view_is)
    c.in-Err.ensures.causes c.in-Err.ensures.fault c.fault.ensures
