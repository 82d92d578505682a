mod WordTexts
