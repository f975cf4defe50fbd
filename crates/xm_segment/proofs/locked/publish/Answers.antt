use Rattle.xm_segment.proofs.Publishing.{may-own, quote-shown, told-own}
use Rattle.xm_segment.proofs.locked.publish.Goals as goal

pub publish-requires-clause-quote : goal.publish-requires-clause-quote
publish-requires-clause-quote g c =
    quote-shown c.args.pen.now c.args.desk.now c.args.watch.now.number c.number.result c.args.command.now c.quote-quote.result c.quote-quote.ensures c.requires.took c.number.ensures.number

pub tell-requires : goal.tell-requires
tell-requires g c = record { own = λ _. may-own c.args.pen.now c.publish.new.pen c.args.watch.now c.number.result c.args.command.now c.requires.told c.number.ensures.number c.publish.ensures }

pub returns-clause-watch : goal.returns-clause-watch
returns-clause-watch g c =
    told-own c.args.pen.now c.publish.new.pen c.tell.new.pen c.args.watch.now c.tell.new.watch c.number.result c.args.command.now c.number.ensures.number c.publish.ensures c.tell.ensures.pen c.tell.ensures.watch
