use Rattle.time_components.proofs.component.parse_subsecond.Goals as goal

pub returns-in-One : goal.returns-in-One
returns-in-One c = rw c.in-One.is c.fraction.ensures

pub returns-in-Two : goal.returns-in-Two
returns-in-Two c = rw c.in-Two.is c.fraction-in-Two.ensures

pub returns-in-Three : goal.returns-in-Three
returns-in-Three c = rw c.in-Three.is c.fraction-in-Three.ensures

pub returns-in-Four : goal.returns-in-Four
returns-in-Four c = rw c.in-Four.is c.fraction-in-Four.ensures

pub returns-in-Five : goal.returns-in-Five
returns-in-Five c = rw c.in-Five.is c.fraction-in-Five.ensures

pub returns-in-Six : goal.returns-in-Six
returns-in-Six c = rw c.in-Six.is c.fraction-in-Six.ensures

pub returns-in-Seven : goal.returns-in-Seven
returns-in-Seven c = rw c.in-Seven.is c.fraction-in-Seven.ensures

pub returns-in-Eight : goal.returns-in-Eight
returns-in-Eight c = rw c.in-Eight.is c.fraction-in-Eight.ensures

pub returns-in-Nine : goal.returns-in-Nine
returns-in-Nine c = rw c.in-Nine.is c.fraction-in-Nine.ensures

pub returns-in-OneOrMore : goal.returns-in-OneOrMore
returns-in-OneOrMore c = rw c.in-OneOrMore.is c.long_fraction.ensures
