use Rattle.xm_program.proofs.program.carry_over.Goals as goal

pub returns-clause-ends : goal.returns-clause-ends
returns-clause-ends g c = record { made = c.day_of_carried_files-made.result; is_day = c.day_of_carried_files-made.ensures; is_sent = c.send_day.ensures.sent }
