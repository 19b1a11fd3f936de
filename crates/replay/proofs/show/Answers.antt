-- Each write makes what the writer holds grow, and so do all that came.
use Rattle.text.specs.Written.{grows_trans}
use Rattle.replay.proofs.show.Goals as goal

pub returns-in_err-put : goal.returns-in_err-put
returns-in_err-put g c = record { grows = grows_trans _ _ _ c.put_number.ensures.grows c.put.ensures.grows }

pub returns-in_err-put_number-2 : goal.returns-in_err-put_number-2
returns-in_err-put_number-2 g c = record { grows = grows_trans _ _ _ (grows_trans _ _ _ c.put_number.ensures.grows c.put.ensures.grows) c.put_number-2.ensures.grows }

pub returns-in_err-put-2 : goal.returns-in_err-put-2
returns-in_err-put-2 g c = record { grows = grows_trans _ _ _ (grows_trans _ _ _ (grows_trans _ _ _ c.put_number.ensures.grows c.put.ensures.grows) c.put_number-2.ensures.grows) c.put-2.ensures.grows }

pub returns-in_default : goal.returns-in_default
returns-in_default g c = record { grows = grows_trans _ _ _ (grows_trans _ _ _ (grows_trans _ _ _ (grows_trans _ _ _ c.put_number.ensures.grows c.put.ensures.grows) c.put_number-2.ensures.grows) c.put-2.ensures.grows) c.put-in_default.ensures.grows }

pub returns-in_err-put-3 : goal.returns-in_err-put-3
returns-in_err-put-3 g c = record { grows = grows_trans _ _ _ (grows_trans _ _ _ (grows_trans _ _ _ (grows_trans _ _ _ c.put_number.ensures.grows c.put.ensures.grows) c.put_number-2.ensures.grows) c.put-2.ensures.grows) c.put-3.ensures.grows }

pub returns-in_err-put_number-3 : goal.returns-in_err-put_number-3
returns-in_err-put_number-3 g c = record { grows = grows_trans _ _ _ (grows_trans _ _ _ (grows_trans _ _ _ (grows_trans _ _ _ (grows_trans _ _ _ c.put_number.ensures.grows c.put.ensures.grows) c.put_number-2.ensures.grows) c.put-2.ensures.grows) c.put-3.ensures.grows) c.put_number-3.ensures.grows }

pub returns : goal.returns
returns g c = record { grows = grows_trans _ _ _ (grows_trans _ _ _ (grows_trans _ _ _ (grows_trans _ _ _ (grows_trans _ _ _ (grows_trans _ _ _ c.put_number.ensures.grows c.put.ensures.grows) c.put_number-2.ensures.grows) c.put-2.ensures.grows) c.put-3.ensures.grows) c.put_number-3.ensures.grows) c.put-4.ensures.grows }
